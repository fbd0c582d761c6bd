-- `device::any_written` meets its contract: `found` says whether one of the cells passed is not erased. Assumes nothing.
use mathlib.Core.Path.{◌≡◌}
use lib.ListN.{length, take, replicate}
use Rattle.device.specs.Media.{ff, any_pair, unequal}
use Rattle.device.proofs.any_written.Given as goal

abbrev pub invariant-loop-cell : goal.invariant-loop-cell
invariant-loop-cell l = l.found ≡ any_pair unequal (take l.cell-index l.cells) (take l.cell-index (replicate (length l.cells) ff))
