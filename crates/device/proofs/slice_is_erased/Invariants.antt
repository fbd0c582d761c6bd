-- `device::slice_is_erased` meets its contract: the cells before `i` are all erased, so some cell is not exactly if one from `i` on is not.
-- Assumes nothing.
use mathlib.Core.Path.{◌≡◌}
use Prim.Native.Nat.{◌-◌, ◌≤◌}
use lib.ListN.{length, drop}
use Rattle.device.proofs.Pairs.{written}
use Rattle.device.proofs.slice_is_erased.Given as goal

abbrev pub invariant-loop-i : goal.invariant-loop-i
invariant-loop-i l = (l.i ≤ length l.cells) × (written l.cells ≡ written (drop l.i l.cells))

abbrev pub decreases-loop-i : goal.decreases-loop-i
decreases-loop-i l = length l.cells - l.i
