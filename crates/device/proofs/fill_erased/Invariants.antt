-- `device::fill_erased` meets its contract: after i turns the first i media are erased and the others as they were. Assumes nothing.
use mathlib.Core.Path.{◌≡◌}
use mathlib.Core.List.{◌++◌}
use lib.ListN.{length, take, drop, replicate}
use Rattle.device.specs.Media.{ff}
use Rattle.device.proofs.fill_erased.Given as goal

abbrev pub invariant-loop-i : goal.invariant-loop-i
invariant-loop-i l = (length l.media ≡ length l.initial.media) × (l.media ≡ take l.i (replicate (length l.initial.media) ff) ++ drop l.i l.initial.media)
