-- Document 01, "Scripts and the two programs": what `sweep` and `judge` print, as lines, and the part of them that a buffer has room for.
-- Definitions only; assumes nothing.
use Rattle.std.specs.Prelude.{◌≡◌, Bool, true, false, cond, ℕ, zero, suc, ◌-◌, ◌≤◌, ◌<◌, length, take, drop, leb, ltb, Result, Ok, Err}
use Rattle.refusals.specs.declared.Refusal.{Refusal}
use Rattle.refusals.specs.Numbers.{number_of}
use Rattle.text_parts.specs.declared.Part.{Part as CodePart}
use mathlib.Core.List.{List, [], ◌∷◌, ◌++◌, flatten}
use Rattle.sweeps.specs.Sweep.{sweep_output, judge_output}
use Rattle.text_of_runs.specs.Printout.{sweep_lines, judge_lines}

-- the lines of one program or the other
abbrev pub lines_for : (judged : Bool) → (text : List ℕ) → List (List ℕ)
lines_for true text = judge_lines text
lines_for false text = sweep_lines text

-- ---- a part of the lines

-- how many lines, how many bytes they are, and how many lines come after them; or the number that refuses a buffer without room
pub data Part : Type 0 where
  Lines : (lines bytes left : ℕ) → Part
  NoRoom : (number : ℕ) → Part

-- the code's answer so
abbrev pub part_as : Result CodePart Refusal → Part
part_as (Ok p) = Lines p.lines p.bytes p.left
part_as (Err e) = NoRoom (number_of e)

-- the first lines, as many as there is room for
unfoldable pub fitting : (room : ℕ) → List (List ℕ) → List (List ℕ)
fitting room [] = []
fitting room (x ∷ xs) = cond (leb (length x) room) (x ∷ fitting (room - length x) xs) []

-- there is a line, and no room for it
abbrev pub none_fits : (room : ℕ) → List (List ℕ) → Bool
none_fits room [] = false
none_fits room (x ∷ xs) = ltb room (length x)

-- the reply, and the buffer then
pub record PartLeft : Type 0 where
  pub reply : Part
  pub out : List ℕ

abbrev pub part_left : Part → (out : List ℕ) → PartLeft
part_left r out = record { reply = r; out = out }

-- lines at the front of a buffer: how many they are, how many bytes, and how many lines come after them
abbrev pub part_with : (ls fit : List (List ℕ)) → (out : List ℕ) → PartLeft
part_with ls fit out = part_left (Lines (length fit) (length (flatten fit)) (length ls - length fit)) (flatten fit ++ drop (length (flatten fit)) out)

-- as many lines as the buffer has room for; "13: lent columns shorter than the result", where it has room for none
unfoldable pub part_of : (ls : List (List ℕ)) → (out : List ℕ) → PartLeft
part_of ls out = cond (none_fits (length out) ls) (part_left (NoRoom 13) out) (part_with ls (fitting (length out) ls) out)

-- ---- parts one after another

-- what a part tells: how many lines it has, and their bytes
abbrev pub lines_in : Part → ℕ
lines_in (Lines count bytes left) = count
lines_in (NoRoom number) = 0

abbrev pub bytes_in : Part → (out : List ℕ) → List ℕ
bytes_in (Lines count bytes left) out = take bytes out
bytes_in (NoRoom number) out = []

-- the bytes of so many parts asked for one after another, each from the line after the last of the one before, all into one buffer
unfoldable pub in_turn : (turns : ℕ) → (ls : List (List ℕ)) → (out : List ℕ) → List ℕ
in_turn zero ls out = []
in_turn (suc n) ls out =
    let p : PartLeft = part_of ls out in
    bytes_in p.reply p.out ++ in_turn n (drop (lines_in p.reply) ls) p.out

-- What holds of the lines `ls` of a program whose text is `text`: put together they are the text; there are so few, and it is so short;
-- a buffer of 11,915 bytes has room for any of them; and so the text from a line on is what a part holds, followed by the text from the
-- first line after it on. All parts in turn, as many as there are lines or more, are the text.
pub record Parts (ls : List (List ℕ)) (text : List ℕ) : Type 0 where
  pub together : flatten ls ≡ text
  pub not-many : length ls ≤ 50337796
  pub not-long : length text ≤ 599774839340
  pub has_room : (from : ℕ) (out : List ℕ) → 11915 ≤ length out → from < length ls → 0 < length (fitting (length out) (drop from ls))
  pub goes_on : (from : ℕ) (out : List ℕ) → 11915 ≤ length out
      → let fit : List (List ℕ) = fitting (length out) (drop from ls) in
      (part_of (drop from ls) out ≡ part_with (drop from ls) fit out) × (flatten fit ++ flatten (drop (length fit) (drop from ls)) ≡ flatten (drop from ls))
  pub in-turn : (turns : ℕ) (out : List ℕ) → 11915 ≤ length out → length ls ≤ turns → in_turn turns ls out ≡ text

-- The claim, for every text.
abbrev pub AllParts : Type 0
AllParts = (text : List ℕ) → Parts (sweep_lines text) (sweep_output text) × Parts (judge_lines text) (judge_output text)
