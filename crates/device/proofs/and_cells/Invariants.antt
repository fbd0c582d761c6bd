-- `device::and_cells` meets its contract: after i turns the first i cells are their AND with `src` and the others as they were,
-- and `changed` says whether one of those i differs from what it was. Assumes nothing.
use mathlib.Core.Path.{◌≡◌}
use mathlib.Core.List.{◌++◌}
use lib.ListN.{length, take, drop}
use Rattle.device.specs.Media.{anded, any_pair, unequal}
use Rattle.device.proofs.and_cells.Given as goal

abbrev pub invariant-loop-i : goal.invariant-loop-i
invariant-loop-i l = (length l.cells ≡ length l.initial.cells) × (l.cells ≡ take l.i (anded l.initial.cells l.src) ++ drop l.i l.initial.cells)
    × (l.changed ≡ any_pair unequal (take l.i l.initial.cells) (take l.i (anded l.initial.cells l.src)))
