-- Document 01, "Expected forms by place": "then the operation log is a lent slice of entries". How a log of entries and a log in
-- columns correspond, both ways, and what is refused. Definitions only; assumes nothing.
use Rattle.std.specs.Prelude.{ℕ, zero, suc, ◌<◌, ◌≤◌, ◌≡◌, cond, List, [], ◌∷◌, length, get_or, set, eqb, ltb, Result}
use Rattle.std.specs.Prelude.{Ok as Found, Err as NotThere}
use Rattle.basics.specs.Tests.{unless, refuse_if, first_of}
use Rattle.basics.specs.Replies.{answered}
use Rattle.session.specs.declared.Entry.{Entry}
use Rattle.session.specs.Log.{Log, logged}
use Rattle.session.specs.Tests.{log_uneven}

-- the entry that no operation leaves: what a column that ends early stands for
abbrev pub no_entry : Entry
no_entry = record { kind = 0; offset = 0; len = 0; digest = 0; changed = 0; answered = 0 }

-- Document 01 numbers a place outside a list for crash points alone, "11: crash-point place not below the count"; an index outside
-- a log of `count` entries has the same number
unfoldable pub place_test : (index count : ℕ) → ℕ
place_test i count = unless (ltb i count) 11

-- what reading an entry answers: the entry, or the number that refuses
abbrev pub EntryAnswer : Type 0
EntryAnswer = Result Entry ℕ

-- "Where an answer is an enum, a definition gives this paper's number and values for each of its cases."
abbrev pub number_of_entry : EntryAnswer → ℕ
number_of_entry (Found entry) = 0
number_of_entry (NotThere number) = number

-- the answer that has a number: where it is 0, the entry
abbrev pub entry_by : (number : ℕ) → Entry → EntryAnswer
entry_by number entry = answered number entry

-- the entry at an index, or the number that refuses
unfoldable pub entry_at : List Entry → (index : ℕ) → EntryAnswer
entry_at log i = entry_by (place_test i (length log)) (get_or log i no_entry)

-- row i of the columns as an entry
unfoldable pub row_of : Log → (index : ℕ) → Entry
row_of l i =
    record { kind = get_or l.kinds i 0; offset = get_or l.offsets i 0; len = get_or l.lens i 0; digest = get_or l.digests i 0; changed = get_or l.changed i 0; answered = get_or l.answered i 0 }

-- columns to entries: a log of entries with the columns' first n rows in it
abbrev pub with_rows : Log → List Entry → (n : ℕ) → List Entry
with_rows l log zero = log
with_rows l log (suc i) = set (with_rows l log i) i (row_of l i)

-- entries to columns: the columns with the first n entries recorded in them, as the session records an operation
abbrev pub with_entries : List Entry → Log → (n : ℕ) → Log
with_entries log l zero = l
with_entries log l (suc i) = logged (with_entries log l i) i (get_or log i no_entry)

-- "12: columns of one list unequal (.. log ..)", "13: lent columns shorter than the result": over the columns' lengths, where
-- `rows` rows are handed to a place with room for `room`
unfoldable pub moved_test : (kinds offsets lens digests changed answered rows room : ℕ) → ℕ
moved_test k o l d c a rows room = first_of (refuse_if (log_uneven k o l d c a) 12 ∷ refuse_if (ltb room rows) 13 ∷ [])

abbrev pub moved_number : Log → (rows room : ℕ) → ℕ
moved_number l rows room =
    moved_test (length l.kinds) (length l.offsets) (length l.lens) (length l.digests) (length l.changed) (length l.answered) rows room

-- how many rows go over: all of them, or none where a number refuses
unfoldable pub moved_rows : (number rows : ℕ) → ℕ
moved_rows number rows = cond (eqb number 0) rows 0

-- a session's log handed on as entries: the number, and the entries after it
abbrev pub entries_number : Log → List Entry → ℕ
entries_number l log = moved_number l (length l.kinds) (length log)

abbrev pub to_entries : Log → List Entry → List Entry
to_entries l log = with_rows l log (moved_rows (entries_number l log) (length l.kinds))

-- and got back: the number, and the columns after it
abbrev pub columns_number : List Entry → Log → ℕ
columns_number log l = moved_number l (length log) (length l.kinds)

abbrev pub to_columns : List Entry → Log → Log
to_columns log l = with_entries log l (moved_rows (columns_number log l) (length log))

-- columns of one length, and columns with n rows or more
abbrev pub OfLength : (n : ℕ) → Log → Type 0
OfLength n l =
    (length l.kinds ≡ n) × (length l.offsets ≡ n) × (length l.lens ≡ n) × (length l.digests ≡ n) × (length l.changed ≡ n) × (length l.answered ≡ n)

abbrev pub HasRows : (n : ℕ) → Log → Type 0
HasRows n l =
    (n ≤ length l.kinds) × (n ≤ length l.offsets) × (n ≤ length l.lens) × (n ≤ length l.digests) × (n ≤ length l.changed) × (n ≤ length l.answered)

-- How entries and columns correspond: a log of entries and a log in columns are the same for n rows if both have as many and entry i
-- is row i, for each i below n. What `to_entries` and `to_columns` leave is the same for every row that goes over (proofs/Returned),
-- and a session's calls keep it (`session_entries_calls`).
pub record Same (n : ℕ) (log : List Entry) (l : Log) : Type 0 where
  pub entries : n ≤ length log
  pub columns : HasRows n l
  pub rows : (i : ℕ) → i < n → get_or log i no_entry ≡ row_of l i
