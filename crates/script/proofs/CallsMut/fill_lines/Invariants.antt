-- `script::CallsMut::fill_lines` meets its contract. The loop has stored the first `i` calls, which are those of the lines before `at`,
-- and their bytes, of which there are `used`. Assumes nothing.
use Prim.Native.Nat.{◌-◌, ◌≤◌}
use lib.ListN.{length, drop}
use Rattle.text.specs.Lines.{lines_of}
use Rattle.script.specs.Calls.{read_lines}
use Rattle.script.specs.Lent.{columns_in, SameCalls}
use Rattle.script.specs.Inner.{calls_read}
use Rattle.script.proofs.Fills.{SameLong, Filling}
use Rattle.script.proofs.CallsMut.fill_lines.Given as goal

abbrev pub invariant-loop-at : goal.invariant-loop-at
invariant-loop-at l = (l.at ≤ length l.text) × SameCalls l.initial.self l.self × SameLong (columns_in l.initial.self) (columns_in l.self)
    × Filling l.text (calls_read (read_lines 2 (lines_of (drop l.from l.text)))) (columns_in l.initial.self) (columns_in l.self) l.at l.i l.used

abbrev pub decreases-loop-at : goal.decreases-loop-at
decreases-loop-at l = length l.text - l.at
