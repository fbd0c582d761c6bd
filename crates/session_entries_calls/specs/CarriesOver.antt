-- Document 01, "Expected forms by place": "then the operation log is a lent slice of entries". How a session's promises carry over to a
-- log of entries, on one page. What the words mean: `session_entries` specs/Entries has what `to_entries` and `to_columns` answer and
-- leave, and `Same`, how entries and columns correspond; `threaded` specs/Threaded has a session's calls, one and a list of them. The
-- proof is `carries_over` in proofs/Page.antt. Definitions only; assumes nothing.
use Rattle.std.specs.Prelude.{◌≡◌, cond, List, [], ◌∷◌, ℕ, ◌≤◌, length, get_or, set, eqb}
use Rattle.session.specs.declared.Told.{Told}
use Rattle.session.specs.declared.Entry.{Entry}
use Rattle.session.specs.Log.{Log}
use Rattle.session.specs.Barrier.{barrier_test, barrier_reply, barrier_entry}
use Rattle.session_erase.specs.Erase.{erase_number_of, erase_plan, erase_landing, erase_entry}
use Rattle.session_program.specs.Program.{program_number_of, program_plan, program_landing, program_entry}
use Rattle.plain.specs.Plain.{program, erase, barrier, Call, act, mark}
use Rattle.threaded.specs.Threaded.{Session, Answered, answered, Threaded, threaded}
use Rattle.session_entries.specs.Entries.{no_entry, row_of, entries_number, to_entries, columns_number, to_columns, OfLength, Same}

-- what a call with this number leaves of a log of entries: where the number is 0 its entry is stored at the count, else nothing changes
abbrev pub stored_by : (number : ℕ) → List Entry → (count : ℕ) → Entry → List Entry
stored_by number log count e = cond (eqb number 0) (set log count e) log

-- what a session's call leaves of a log of entries; a mark leaves it as it is
abbrev pub entries_after : Told → Session → Call → List Entry → List Entry
entries_after t s (act (program offset bytes)) log =
    stored_by (program_number_of t s.counters offset bytes s.media s.copy s.log) log s.counters.operations
    (program_entry offset bytes (program_landing offset (program_plan t s.counters offset (length bytes)).landed bytes s.media s.copy).changed (program_plan t s.counters offset (length bytes)).reply.answer)
entries_after t s (act (erase offset len)) log =
    stored_by (erase_number_of t s.counters offset len s.media s.copy s.log) log s.counters.operations
    (erase_entry offset len (erase_landing offset len (erase_plan t s.counters offset len).landed s.media s.copy).changed (erase_plan t s.counters offset len).reply.answer)
entries_after t s (act barrier) log =
    stored_by (barrier_test t s.counters s.log) log s.counters.operations (barrier_entry (barrier_reply t s.counters).answer)
entries_after t s (mark label) log = log

-- and a list of calls, each handed what the one before left
unfoldable pub entries_through : Told → Session → List Call → List Entry → List Entry
entries_through t s [] log = log
entries_through t s (x ∷ xs) log = entries_through t (answered t s x).session xs (entries_after t s x log)

-- a session that is lent these columns for its log
abbrev pub with_log : Session → Log → Session
with_log s l = record { counters = s.counters; media = s.media; copy = s.copy; log = l; marks = s.marks }

-- what a caller has who keeps the log as entries: the answers to its calls, the session, and the entries
pub record Kept : Type 0 where
  pub answers : List ℕ
  pub session : Session
  pub entries : List Entry

abbrev pub kept_of : Threaded → List Entry → Kept
kept_of r log = record { answers = r.answers; session = r.session; entries = log }

-- each call of such a caller: the entries are got back into the session's columns, the call is made, and the columns are handed on
unfoldable pub kept_through : Told → Session → List Call → List Entry → Kept
kept_through t s [] log = record { answers = []; session = s; entries = log }
kept_through t s (x ∷ xs) log =
    let a : Answered = answered t (with_log s (to_columns log s.log)) x in
    let next : Kept = kept_through t a.session xs (to_entries a.session.log log) in
    record { answers = a.answer ∷ next.answers; session = next.session; entries = next.entries }

pub record CarriesOver : Type 0 where
  -- 1. `to_entries` that answers 0 leaves a log that is the same as the columns for every row, and as it was past them; it may be longer.
  -- It keeps its length, whatever is answered.
  pub handed-on : (l : Log) (log : List Entry) → entries_number l log ≡ 0 → Same (length l.kinds) (to_entries l log) l
  pub as-many-entries : (l : Log) (log : List Entry) → length (to_entries l log) ≡ length log
  pub past-the-columns : (l : Log) (log : List Entry) (i : ℕ) → length l.kinds ≤ i → get_or (to_entries l log) i no_entry ≡ get_or log i no_entry
  -- 2. `to_columns` that answers 0 leaves columns that are the same as the log for every entry, and as they were past it; they may be longer.
  -- They keep their lengths, whatever is answered.
  pub got-back : (log : List Entry) (l : Log) → columns_number log l ≡ 0 → Same (length log) log (to_columns log l)
  pub as-many-rows : (log : List Entry) (l : Log) (n : ℕ) → OfLength n l → OfLength n (to_columns log l)
  pub past-the-entries : (log : List Entry) (l : Log) (i : ℕ) → length log ≤ i → row_of (to_columns log l) i ≡ row_of l i
  -- 3. Any other answer changes nothing.
  pub entries-refused : (l : Log) (log : List Entry) → (entries_number l log ≡ 0 → ⊥) → to_entries l log ≡ log
  pub columns-refused : (log : List Entry) (l : Log) → (columns_number log l ≡ 0 → ⊥) → to_columns log l ≡ l
  -- 4. Two logs that are the same, and of one length, are each what the other is handed on as, whatever was there.
  pub entries-of : (n : ℕ) (log : List Entry) (l : Log) (log' : List Entry) → Same n log l → length log ≡ n → OfLength n l → length log' ≡ n → to_entries l log' ≡ log
  pub columns-of : (n : ℕ) (log : List Entry) (l l' : Log) → Same n log l → length log ≡ n → OfLength n l → OfLength n l' → to_columns log l' ≡ l
  -- 5. A call keeps it: one entry stored at the count, and the log is the same as the columns that the call leaves. So does a list of calls.
  pub call-keeps : (t : Told) (s : Session) (x : Call) (n : ℕ) (log : List Entry) → Same n log s.log → Same n (entries_after t s x log) (answered t s x).session.log
  pub calls-keep : (t : Told) (s : Session) (xs : List Call) (n : ℕ) (log : List Entry) → Same n log s.log → Same n (entries_through t s xs log) (threaded t s xs).session.log
  -- 6. A call does not change what `to_entries` answers. So the log handed on again after a call is the log with that one entry stored,
  -- also where it is longer than the columns,
  pub number-stays : (t : Told) (s : Session) (x : Call) (log : List Entry) → entries_number (answered t s x).session.log log ≡ entries_number s.log log
  pub handed_on-again : (t : Told) (s : Session) (x : Call) (log : List Entry) → entries_number s.log log ≡ 0 → Same (length s.log.kinds) log s.log
      → to_entries (answered t s x).session.log log ≡ entries_after t s x log
  -- and a caller who keeps the log as entries, and for each call gets it back into columns, calls, and hands it on, has it too,
  pub kept-as-entries : (t : Told) (s : Session) (x : Call) (log : List Entry) → columns_number log s.log ≡ 0 → entries_number s.log log ≡ 0
      → to_entries (answered t (with_log s (to_columns log s.log)) x).session.log log ≡ entries_after t (with_log s (to_columns log s.log)) x log
  -- 7. and for a list of calls has the answers and the session of the calls on the columns alone.
  pub kept-through : (t : Told) (s : Session) (xs : List Call) (n : ℕ) (log : List Entry) → Same n log s.log → length log ≡ n → OfLength n s.log
      → kept_through t s xs log ≡ kept_of (threaded t s xs) (entries_through t s xs log)
  -- 8. The entries after a list of calls, got back into any columns of their length, are the session's columns: whatever is promised of
  -- these, the ledger too, is promised of those.
  pub calls-return : (t : Told) (s : Session) (xs : List Call) (n : ℕ) (log : List Entry) (l : Log) → Same n log s.log → length log ≡ n → OfLength n s.log → OfLength n l
      → to_columns (entries_through t s xs log) l ≡ (threaded t s xs).session.log
