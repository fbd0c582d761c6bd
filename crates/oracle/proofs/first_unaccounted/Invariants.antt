-- `oracle::first_unaccounted` meets its contract: no dispatched id before this one is lost. Assumes nothing.
use mathlib.Core.Path.{◌≡◌}
use lib.ListN.{drop}
use Rattle.oracle.specs.Verdict.{first_lost}
use Rattle.oracle.specs.declared.Breach.TheVariants.{DispatchedWithoutADurableIntent}
use Rattle.oracle.proofs.first_unaccounted.Given as goal

abbrev pub invariant-loop-intent : goal.invariant-loop-intent
invariant-loop-intent l = first_lost DispatchedWithoutADurableIntent l.history l.dispatched ≡ first_lost DispatchedWithoutADurableIntent l.history (drop l.intent-index l.dispatched)
