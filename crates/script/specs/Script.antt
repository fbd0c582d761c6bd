-- Document 01, "Numbers from the input": "Order in a script: 9, then the first faulty line, with 8 before 1 to 3 and 10."
-- Definitions only; assumes nothing.
use Rattle.std.specs.Prelude.{cond, List, [], ◌∷◌, ℕ, length, eqb, leb}
use Rattle.text.specs.Lines.{TextLine, lines_of}
use Rattle.script.specs.declared.Head.{Head}
use Rattle.script.specs.Calls.{Call, Reading, calls, faulty, read_lines}
use Rattle.script.specs.First.{FirstLine, given, no_head, first_of_line, head_test}

-- line 1 and the calls of the lines after it; or the number that refuses the script, and the line
pub data Script : Type 0 where
  script : Head → List Call → Script
  refused : (number line : ℕ) → Script

-- "8: malformed line"
abbrev pub with_calls : Head → Reading → Script
with_calls h (calls cs) = script h cs
with_calls h (faulty line) = refused 8 line

-- a line 1 that reads is tested for 1 to 3, then 10
abbrev pub with_test : (number : ℕ) → Script → Script
with_test number s = cond (eqb number 0) s (refused number 1)

-- "with 8 before 1 to 3 and 10"
abbrev pub with_first : FirstLine → List TextLine → Script
with_first no_head ls = refused 8 1
with_first (given h) ls = with_test (head_test h.geometry) (with_calls h (read_lines 2 ls))

-- "8: .. or line 1 absent"; "The line is .. 1 where line 1 is absent."
abbrev pub with_lines : List TextLine → Script
with_lines [] = refused 8 1
with_lines (l ∷ ls) = with_first (first_of_line l) ls

-- "9: script above 65,536 bytes"; "The line is 0 for 9"
unfoldable pub script_of : List ℕ → Script
script_of text = cond (leb (length text) 65536) (with_lines (lines_of text)) (refused 9 0)
