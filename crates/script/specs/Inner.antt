-- What private functions answer. No public contract cites these.
-- Definitions only; assumes nothing.
use Rattle.std.specs.Prelude.{◌≡◌, Option, Some, None, Result, Ok, Err, cond, List, [], ◌∷◌, ℕ, ◌+◌, ◌-◌, ◌≤◌, ◌<◌, length, take, drop, eqb}
use Rattle.basics.specs.Parts.{part, overlaid}
use Rattle.storage.specs.declared.Geometry.{Geometry}
use Rattle.refusals.specs.declared.Refusal.{Refusal}
use Rattle.refusals.specs.declared.Refusal.TheVariants.{MalformedLine}
use Rattle.refusals.specs.Numbers.{number_of as refusal_number}
use Rattle.text.specs.Lines.{lines_of}
use Rattle.text.specs.Numbers.{number, number_of}
use Rattle.text.specs.Pairs.{pair_values}
use Rattle.hex_pairs.specs.Answers.{decoded}
use Rattle.script.specs.declared.Head.{Head}
use Rattle.script.specs.declared.Row.{Row}
use Rattle.script.specs.declared.Script.{Script as Told}
use Rattle.script.specs.declared.ScriptError.{ScriptError}
use Rattle.script.specs.Calls.{Call, Meaning, call, malformed, call_of, Reading, calls, faulty, read_lines}
use Rattle.script.specs.First.{FirstLine, given, no_head, headed, head_of}
use Rattle.script.specs.Script.{script, refused, script_of}
use Rattle.script.specs.Columns.{Columns, kind_of, first_in, second_in, third_in, bytes_in, bytes_of}

-- ---- the first line of a text, as fields

-- the fields of a line that an LF ends, and the text after it; or that no LF is there
pub data Cells : Type 0 where
  cells : (field : List ℕ) (others : List (List ℕ)) (rest : List ℕ) → Cells
  broken : Cells

-- a byte, and an empty field, put in front
abbrev pub onto_cell : ℕ → Cells → Cells
onto_cell x (cells f fs rest) = cells (x ∷ f) fs rest
onto_cell x broken = broken

abbrev pub push_cell : Cells → Cells
push_cell (cells f fs rest) = cells [] (f ∷ fs) rest
push_cell broken = broken

unfoldable pub cells_of : List ℕ → Cells
cells_of [] = broken
cells_of (x ∷ xs) = cond (eqb x 10) (cells [] [] xs) (cond (eqb x 9) (push_cell (cells_of xs)) (onto_cell x (cells_of xs)))

-- a whole field put in front
abbrev pub in_front : List ℕ → Cells → Cells
in_front f (cells g gs rest) = cells f (g ∷ gs) rest
in_front f broken = broken

abbrev pub meaning_in : Cells → Meaning
meaning_in (cells f fs rest) = call_of (f ∷ fs)
meaning_in broken = malformed

abbrev pub head_in : Cells → FirstLine
head_in (cells f fs rest) = head_of (f ∷ fs)
head_in broken = no_head

-- ---- a line after the first

-- the line from a place on starts with this letter and this byte after it
pub record Opened (s : List ℕ) (from letter end : ℕ) : Type 0 where
  pub is : drop from s ≡ letter ∷ end ∷ drop (from + 2) s
  pub inside : from + 2 ≤ length s

abbrev pub row_of : (kind first second third start size : ℕ) → Row
row_of kind first second third start size = record { kind = kind; first = first; second = second; third = third; start = start; size = size }

-- the row is that of the line's call, its bytes start at a place of the text, and the next place is past the line's LF
pub record Taken (s : List ℕ) (from : ℕ) (row : Row) (next : ℕ) : Type 0 where
  pub it : Call
  pub field : List ℕ
  pub others : List (List ℕ)
  pub is : cells_of (drop from s) ≡ cells field others (drop next s)
  pub means : call_of (field ∷ others) ≡ call it
  pub kind-is : row.kind ≡ kind_of it
  pub first-is : row.first ≡ first_in it
  pub second_is : row.second ≡ second_in it
  pub third-is : row.third ≡ third_in it
  pub size_is : row.size ≡ length (bytes_in it)
  pub bytes : bytes_in it ≡ take row.size (pair_values (drop row.start s))
  pub small : row.size ≤ 4096
  pub forward : from < next
  pub inside : next ≤ length s

abbrev pub Reads : List ℕ → (from : ℕ) → Option (Row × ℕ) → Type 0
Reads s from (Some (row, next)) = Taken s from row next
Reads s from None = meaning_in (cells_of (drop from s)) ≡ malformed

-- ---- line 1

-- the four numbers from a place on
pub record FourTaken (s : List ℕ) (at : ℕ) (g : Geometry) (next : ℕ) : Type 0 where
  pub capacity : List ℕ
  pub erase : List ℕ
  pub program : List ℕ
  pub read : List ℕ
  pub is : cells_of (drop at s) ≡ in_front capacity (in_front erase (in_front program (in_front read (cells_of (drop next s)))))
  pub capacity-is : number_of capacity ≡ number g.capacity
  pub erase-is : number_of erase ≡ number g.erase_size
  pub program-is : number_of program ≡ number g.program_size
  pub read_is : number_of read ≡ number g.read_size
  pub forward : at < next
  pub inside : next ≤ length s

-- or that no line 1 has these fields
pub record Unread (s : List ℕ) (at : ℕ) : Type 0 where
  pub is_none : (k c e p r j w rest : List ℕ) → cells_of (drop at s) ≡ cells c (e ∷ p ∷ r ∷ j ∷ w ∷ []) rest → headed k c e p r j w ≡ no_head

abbrev pub ReadsUnits : List ℕ → (at : ℕ) → Option (Geometry × ℕ) → Type 0
ReadsUnits s at (Some (g, next)) = FourTaken s at g next
ReadsUnits s at None = Unread s at

pub record HeadTaken (s : List ℕ) (h : Head) (next : ℕ) : Type 0 where
  pub field : List ℕ
  pub others : List (List ℕ)
  pub is : cells_of s ≡ cells field others (drop next s)
  pub means : head_of (field ∷ others) ≡ given h
  pub inside : next ≤ length s

abbrev pub ReadsHead : List ℕ → Option (Head × ℕ) → Type 0
ReadsHead s (Some (h, next)) = HeadTaken s h next
ReadsHead s None = head_in (cells_of s) ≡ no_head

-- ---- the checking pass

abbrev pub fault_at : Refusal → (line : ℕ) → ScriptError
fault_at refusal line = record { refusal = refusal; line = line }

-- counts of what went before, and of what follows; or the first faulty line
abbrev pub checked_from : (calls bytes : ℕ) → Reading → Result (ℕ × ℕ) ScriptError
checked_from n b (calls cs) = Ok (n + length cs, b + length (bytes_of cs))
checked_from n b (faulty line) = Err (fault_at MalformedLine line)

-- a script that is not refused: where its second line starts, how many calls it has and how many bytes they bring
pub record Sane (s : List ℕ) (h : Head) (body n b : ℕ) : Type 0 where
  pub cs : List Call
  pub is : script_of s ≡ script h cs
  pub lines : read_lines 2 (lines_of (drop body s)) ≡ calls cs
  pub count : n ≡ length cs
  pub size : b ≡ length (bytes_of cs)
  pub inside : body ≤ length s
  pub short : length s ≤ 65536

abbrev pub Checks : List ℕ → Result (Told × ℕ) ScriptError → Type 0
Checks s (Ok (t, body)) = Sane s t.head body t.calls t.bytes
Checks s (Err e) = script_of s ≡ refused (refusal_number e.refusal) e.line

-- ---- the filling pass

-- the lines from a place on mean calls for which there is room
pub record Ready (s : List ℕ) (from : ℕ) (k : Columns) (cs : List Call) : Type 0 where
  pub lines : read_lines 2 (lines_of (drop from s)) ≡ calls cs
  pub kinds : length cs ≤ length k.kinds
  pub firsts : length cs ≤ length k.firsts
  pub seconds : length cs ≤ length k.seconds
  pub thirds : length cs ≤ length k.thirds
  pub starts : length cs ≤ length k.starts
  pub pool : length (bytes_of cs) ≤ length k.pool
  pub rows : length cs ≤ 32768
  pub few : length (bytes_of cs) ≤ 32768
  pub inside : from ≤ length s

-- the calls of a reading
abbrev pub calls_read : Reading → List Call
calls_read (calls cs) = cs
calls_read (faulty line) = []

-- a pool with the bytes that the pairs from `start` on stand for, from `used` up to `free`
abbrev pub stored : (s : List ℕ) (start : ℕ) (pool : List ℕ) (used free : ℕ) → List ℕ
stored s start pool used free = overlaid pool used (decoded s start (part pool used (free - used)))
