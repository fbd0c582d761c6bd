-- `device_calls::copy_cells` meets its contract: after i turns the first i bytes of `dst` are the cells' and the others as they were. Assumes nothing.
use mathlib.Core.Path.{◌≡◌}
use mathlib.Core.List.{◌++◌}
use lib.ListN.{length, take, drop}
use Rattle.device_calls.proofs.copy_cells.Given as goal

abbrev pub invariant-loop-i : goal.invariant-loop-i
invariant-loop-i l = (length l.dst ≡ length l.initial.dst) × (l.dst ≡ take l.i l.cells ++ drop l.i l.initial.dst)
