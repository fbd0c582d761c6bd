-- `harness::range_behind` meets its contract: the rows not yet looked at tell what all tell. Assumes nothing.
use mathlib.Core.Path.{◌≡◌}
use Prim.Native.Nat.{◌+◌, ◌≤◌}
use lib.ListN.{length}
use Rattle.script.specs.Lent.{columns_seen}
use Rattle.script.specs.Held.{calls_in}
use Rattle.sweeps.specs.Decided.{range_behind}
use Rattle.harness.proofs.Behind.{kinds_left, behind_left}
use Rattle.harness.proofs.range_behind.Given as goal

abbrev pub invariant-loop-kind : goal.invariant-loop-kind
invariant-loop-kind l =
    (range_behind 0 (calls_in l.rows (columns_seen l.calls)) ≡ behind_left l.operations l.kind-iterator)
    × (l.operations + length (kinds_left l.kind-iterator) ≤ l.rows)
