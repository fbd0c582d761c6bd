-- `device_questions::any_sets` meets its contract: `found` says whether one of the bytes passed has a 1 where its cell has 0. Assumes nothing.
use mathlib.Core.Path.{◌≡◌}
use lib.ListN.{length, take}
use Rattle.device.specs.Media.{any_pair, sets_a_bit}
use Rattle.device_questions.proofs.any_sets.Given as goal

abbrev pub invariant-loop-cell : goal.invariant-loop-cell
invariant-loop-cell l = l.found ≡ any_pair sets_a_bit (take (length l.yielded) l.cells) (take (length l.yielded) l.src)
