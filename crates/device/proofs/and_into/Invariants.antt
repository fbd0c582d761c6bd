-- `device::and_into` meets its contract: after i turns the first i bytes of `out` are the AND and the others as they were. Assumes nothing.
use mathlib.Core.Path.{◌≡◌}
use mathlib.Core.List.{◌++◌}
use lib.ListN.{length, take, drop}
use Rattle.device.specs.Media.{anded}
use Rattle.device.proofs.and_into.Given as goal

abbrev pub invariant-loop-i : goal.invariant-loop-i
invariant-loop-i l = (length l.out ≡ length l.initial.out) × (l.out ≡ take l.i (anded l.cells l.src) ++ drop l.i l.initial.out)
