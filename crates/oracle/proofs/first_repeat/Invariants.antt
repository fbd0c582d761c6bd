-- `oracle::first_repeat` meets its contract: none of the ids passed was seen before it. Assumes nothing.
use mathlib.Core.Path.{◌≡◌}
use mathlib.Core.List.{[]}
use lib.ListN.{take, drop}
use Rattle.oracle.specs.Verdict.{seen_before}
use Rattle.oracle.proofs.first_repeat.Given as goal

abbrev pub invariant-loop-place : goal.invariant-loop-place
invariant-loop-place l = seen_before [] l.ids ≡ seen_before (take l.place l.ids) (drop l.place l.ids)
