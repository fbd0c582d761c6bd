-- Document 01, "Scripts and the two programs": the lines after the first. "`B` id begins, `N` ends, `M` id from to marks a range,
-- `P` offset bytes (lower-case hexadecimal pairs, 0 to 4,096, the field may be empty), `E` offset length, `S` is a barrier."
-- Definitions only; assumes nothing.
use Rattle.std.specs.Prelude.{Bool, true, false, cond, ◌&&◌, List, [], ◌∷◌, ℕ, ◌+◌, length, eqb, leb}
use Rattle.text.specs.Lines.{TextLine, ended, unended, fields_of}
use Rattle.text.specs.Numbers.{Decimal, number, none, number_of}
use Rattle.text.specs.Pairs.{is_pairs, pair_values}

-- what a line asks of the writer
pub data Call : Type 0 where
  begin : (id : ℕ) → Call
  end : Call
  mark : (id from to : ℕ) → Call
  program : (offset : ℕ) (bytes : List ℕ) → Call
  erase : (offset count : ℕ) → Call
  barrier : Call

-- a line's call, or that it has none
pub data Meaning : Type 0 where
  call : Call → Meaning
  malformed : Meaning

-- ---- each kind of line, by the fields after its letter; a field too many or too few, or one that does not read, is malformed

abbrev pub begin_with : Decimal → Meaning
begin_with (number id) = call (begin id)
begin_with none = malformed

-- "`B` id begins"
abbrev pub begin_line : List (List ℕ) → Meaning
begin_line [] = malformed
begin_line (id ∷ []) = begin_with (number_of id)
begin_line (id ∷ f ∷ fs) = malformed

-- "`N` ends"
abbrev pub end_line : List (List ℕ) → Meaning
end_line [] = call end
end_line (f ∷ fs) = malformed

abbrev pub mark_with : (id from to : Decimal) → Meaning
mark_with (number id) (number from) (number to) = call (mark id from to)
mark_with (number id) (number from) none = malformed
mark_with (number id) none to = malformed
mark_with none from to = malformed

-- "`M` id from to marks a range"
abbrev pub mark_line : List (List ℕ) → Meaning
mark_line [] = malformed
mark_line (id ∷ []) = malformed
mark_line (id ∷ from ∷ []) = malformed
mark_line (id ∷ from ∷ to ∷ []) = mark_with (number_of id) (number_of from) (number_of to)
mark_line (id ∷ from ∷ to ∷ f ∷ fs) = malformed

-- "lower-case hexadecimal pairs, 0 to 4,096, the field may be empty"
unfoldable pub is_bytes : List ℕ → Bool
is_bytes f = is_pairs f && leb (length (pair_values f)) 4096

abbrev pub program_with : (offset : Decimal) → Bool → (bytes : List ℕ) → Meaning
program_with (number offset) true bytes = call (program offset bytes)
program_with (number offset) false bytes = malformed
program_with none sound bytes = malformed

-- "`P` offset bytes"
abbrev pub program_line : List (List ℕ) → Meaning
program_line [] = malformed
program_line (offset ∷ []) = malformed
program_line (offset ∷ bytes ∷ []) = program_with (number_of offset) (is_bytes bytes) (pair_values bytes)
program_line (offset ∷ bytes ∷ f ∷ fs) = malformed

abbrev pub erase_with : (offset count : Decimal) → Meaning
erase_with (number offset) (number count) = call (erase offset count)
erase_with (number offset) none = malformed
erase_with none count = malformed

-- "`E` offset length"
abbrev pub erase_line : List (List ℕ) → Meaning
erase_line [] = malformed
erase_line (offset ∷ []) = malformed
erase_line (offset ∷ count ∷ []) = erase_with (number_of offset) (number_of count)
erase_line (offset ∷ count ∷ f ∷ fs) = malformed

-- "`S` is a barrier"
abbrev pub barrier_line : List (List ℕ) → Meaning
barrier_line [] = call barrier
barrier_line (f ∷ fs) = malformed

-- ---- a line

-- the field is this letter and nothing else
abbrev pub is_kind : (letter : ℕ) → List ℕ → Bool
is_kind letter [] = false
is_kind letter (x ∷ []) = eqb x letter
is_kind letter (x ∷ y ∷ f) = false

-- by its kind letter: 66 `B`, 78 `N`, 77 `M`, 80 `P`, 69 `E`, 83 `S`. "A line whose kind letter is none of these is refused with 8."
-- So `G` is none of these after line 1.
unfoldable pub call_of : List (List ℕ) → Meaning
call_of [] = malformed
call_of (kind ∷ fields) =
    cond (is_kind 66 kind) (begin_line fields)
    (cond (is_kind 78 kind) (end_line fields)
    (cond (is_kind 77 kind) (mark_line fields)
    (cond (is_kind 80 kind) (program_line fields)
    (cond (is_kind 69 kind) (erase_line fields)
    (cond (is_kind 83 kind) (barrier_line fields)
    malformed)))))

-- "So is a last line without LF."
unfoldable pub meaning_of : TextLine → Meaning
meaning_of (ended l) = call_of (fields_of l)
meaning_of (unended l) = malformed

-- ---- all of them

-- the calls of lines, or the number of the first faulty line
pub data Reading : Type 0 where
  calls : List Call → Reading
  faulty : (line : ℕ) → Reading

abbrev pub call_then : Call → Reading → Reading
call_then c (calls cs) = calls (c ∷ cs)
call_then c (faulty line) = faulty line

abbrev pub on_meaning : Meaning → (line : ℕ) → Reading → Reading
on_meaning (call c) line others = call_then c others
on_meaning malformed line others = faulty line

-- lines of which the first has a given number
unfoldable pub read_lines : (line : ℕ) → List TextLine → Reading
read_lines line [] = calls []
read_lines line (l ∷ ls) = on_meaning (meaning_of l) line (read_lines (line + 1) ls)
