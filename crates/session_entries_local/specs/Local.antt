-- Document 01, "Expected forms by place": "then the operation log is a lent slice of entries". Callers that have such a log in a local
-- and lend it: what `entry_with` answers, and the log that `start_with` lays out. Definitions only; assumes nothing.
use Rattle.std.specs.Prelude.{ℕ, cond, List, [], ◌∷◌, length, set, replicate, eqb}
use Rattle.std.specs.Prelude.{Err as NotThere}
use Rattle.basics.specs.Tests.{first_of}
use Rattle.session.specs.declared.Entry.{Entry}
use Rattle.session.specs.Log.{Log, logged}
use Rattle.session_entries.specs.Entries.{EntryAnswer, no_entry, place_test, entry_by, row_of, entries_number}

-- the log in the local: as many entries as a session takes, none of which an operation left
unfoldable pub blank_log : List Entry
blank_log = replicate 1024 no_entry

-- "the lowest number comes first": 11 for an index outside the columns, then 12 or 13, with which they cannot be handed on
unfoldable pub with_number : (at index rows number : ℕ) → ℕ
with_number at i rows number = first_of (place_test at rows ∷ place_test i rows ∷ number ∷ [])

-- an answer, unless a number refuses
abbrev pub unless_refused : (number : ℕ) → EntryAnswer → EntryAnswer
unless_refused number answer = cond (eqb number 0) answer (NotThere number)

-- the entry at an index of a session's log in which `entry` is recorded at `at`
unfoldable pub entry_with : Log → (at : ℕ) → (entry : Entry) → (index : ℕ) → EntryAnswer
entry_with l at e i =
    entry_by (with_number at i (length l.kinds) (entries_number l blank_log)) (row_of (logged l at e) i)

-- a log that starts with one entry
abbrev pub started_with : Entry → List Entry
started_with e = set blank_log 0 e
