-- The lent columns, a row for each call, and the lent pool, which holds the bytes of all programs one after the other.
-- Definitions only; assumes nothing.
use Rattle.std.specs.Prelude.{Bool, cond, not, ◌&&◌, ◌||◌, List, [], ◌∷◌, ◌++◌, map, ℕ, ◌+◌, length, eqb, leb}
use Rattle.basics.specs.Tests.{unless, first_of}
use Rattle.text.specs.Pairs.{over}
use Rattle.script.specs.declared.Head.{Head}
use Rattle.script.specs.Calls.{Call, begin, end, mark, program, erase, barrier}
use Rattle.script.specs.Script.{Script, script, refused, script_of}

pub record Columns : Type 0 where
  pub kinds : List ℕ
  pub firsts : List ℕ
  pub seconds : List ℕ
  pub thirds : List ℕ
  pub starts : List ℕ
  pub pool : List ℕ

abbrev pub columns : (kinds firsts seconds thirds starts pool : List ℕ) → Columns
columns k a b c s p = record { kinds = k; firsts = a; seconds = b; thirds = c; starts = s; pool = p }

-- "columns of one list unequal", over their lengths
abbrev pub five_uneven : (kinds firsts seconds thirds starts : ℕ) → Bool
five_uneven k a b c s = not (eqb a k) || not (eqb b k) || not (eqb c k) || not (eqb s k)

abbrev pub uneven_of : Columns → Bool
uneven_of k = five_uneven (length k.kinds) (length k.firsts) (length k.seconds) (length k.thirds) (length k.starts)

-- ---- the row of a call

-- the kind is a code, the one that a list of calls has: 0 a program, 1 an erase, 2 a barrier, 3 begin, 4 end; and 5 a range
abbrev pub kind_of : Call → ℕ
kind_of (begin id) = 3
kind_of end = 4
kind_of (mark id from to) = 5
kind_of (program offset bytes) = 0
kind_of (erase offset count) = 1
kind_of barrier = 2

-- id or offset; 0 where there is none
abbrev pub first_in : Call → ℕ
first_in (begin id) = id
first_in end = 0
first_in (mark id from to) = id
first_in (program offset bytes) = offset
first_in (erase offset count) = offset
first_in barrier = 0

-- from or length; 0 where there is none
abbrev pub second_in : Call → ℕ
second_in (begin id) = 0
second_in end = 0
second_in (mark id from to) = from
second_in (program offset bytes) = length bytes
second_in (erase offset count) = count
second_in barrier = 0

-- to; 0 where there is none
abbrev pub third_in : Call → ℕ
third_in (begin id) = 0
third_in end = 0
third_in (mark id from to) = to
third_in (program offset bytes) = 0
third_in (erase offset count) = 0
third_in barrier = 0

-- the bytes of a program
abbrev pub bytes_in : Call → List ℕ
bytes_in (begin id) = []
bytes_in end = []
bytes_in (mark id from to) = []
bytes_in (program offset bytes) = bytes
bytes_in (erase offset count) = []
bytes_in barrier = []

-- where the bytes start: past those of the calls before
unfoldable pub starts_of : (start : ℕ) → List Call → List ℕ
starts_of start [] = []
starts_of start (c ∷ cs) = start ∷ starts_of (start + length (bytes_in c)) cs

unfoldable pub bytes_of : List Call → List ℕ
bytes_of [] = []
bytes_of (c ∷ cs) = bytes_in c ++ bytes_of cs

-- the columns with the calls in their first rows; the rows after them stay as they were
unfoldable pub written : List Call → Columns → Columns
written cs k =
    record {
      kinds = over (map kind_of cs) k.kinds;
      firsts = over (map first_in cs) k.firsts;
      seconds = over (map second_in cs) k.seconds;
      thirds = over (map third_in cs) k.thirds;
      starts = over (starts_of 0 cs) k.starts;
      pool = over (bytes_of cs) k.pool;
    }

-- ---- what reading answers and leaves

-- "12: columns of one list unequal"; "13: lent columns shorter than the result"; by the lengths of the columns and of the pool
unfoldable pub room_for : (kinds firsts seconds thirds starts pool calls bytes : ℕ) → ℕ
room_for kinds firsts seconds thirds starts pool calls bytes =
    first_of
    (unless (eqb firsts kinds && (eqb seconds kinds && (eqb thirds kinds && eqb starts kinds))) 12
    ∷ unless (leb calls kinds && leb bytes pool) 13
    ∷ [])

abbrev pub room_test : Columns → (calls bytes : ℕ) → ℕ
room_test k calls bytes =
    room_for (length k.kinds) (length k.firsts) (length k.seconds) (length k.thirds) (length k.starts) (length k.pool) calls bytes

-- what reading answers: line 1, how many calls and how many bytes; or the paper's number and the line, which is 0 where the fault is
-- in no line
pub data ReadScript : Type 0 where
  Read : (head : Head) (calls bytes : ℕ) → ReadScript
  Refused : (number line : ℕ) → ReadScript

-- how many calls a script has, and how many bytes they bring; or its number and line
abbrev pub count_of : Script → ReadScript
count_of (script h cs) = Read h (length cs) (length (bytes_of cs))
count_of (refused number line) = Refused number line

-- the paper's number of each answer, 0 where the script was read, and the line
abbrev pub number_in : ReadScript → ℕ
number_in (Read h calls bytes) = 0
number_in (Refused number line) = number

abbrev pub line_in : ReadScript → ℕ
line_in (Read h calls bytes) = 0
line_in (Refused number line) = line

-- what is answered, and the columns then
pub record After : Type 0 where
  pub reply : ReadScript
  pub columns : Columns

abbrev pub after : ReadScript → Columns → After
after r k = record { reply = r; columns = k }

-- a script is refused by its own numbers first: 9, 8, 1 to 3 and 10 are all below 12, and "the lowest number comes first". 12 and 13
-- are the columns' and have no line. A refusal leaves every column and the pool as they were.
abbrev pub with_room : Script → Columns → After
with_room (refused number line) k = after (Refused number line) k
with_room (script h cs) k =
    cond (eqb (room_test k (length cs) (length (bytes_of cs))) 0)
    (after (count_of (script h cs)) (written cs k))
    (after (Refused (room_test k (length cs) (length (bytes_of cs))) 0) k)

unfoldable pub read_into : List ℕ → Columns → After
read_into text k = with_room (script_of text) k
