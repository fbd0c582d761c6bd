-- `script::check_lines` meets its contract. The loop has counted `calls` calls and `bytes` bytes; the first line that it has not
-- read is line `calls + 2`. Assumes nothing.
use Prim.Native.Nat.{◌-◌}
use lib.ListN.{length}
use Rattle.script.proofs.Passes.{Sofar}
use Rattle.script.proofs.check_lines.Given as goal

abbrev pub invariant-loop-at : goal.invariant-loop-at
invariant-loop-at l = Sofar l.text l.from l.at l.calls l.bytes

abbrev pub decreases-loop-at : goal.decreases-loop-at
decreases-loop-at l = length l.text - l.at
