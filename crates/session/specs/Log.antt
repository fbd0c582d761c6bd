-- Document 01, "session.rs (974)": what a session keeps in lent columns, the operations recorded and the record marks.
-- Definitions only; assumes nothing.
use Rattle.std.specs.Prelude.{Option, None, Some, List, ℕ, set}
use Rattle.session.specs.declared.Entry.{Entry}

-- "A program, erase or barrier is .. recorded with index, span, digest and whether cells changed": the index is the place in the
-- columns. `answered` tells whether it answered 0, which the ledger asks of a barrier.
pub record Log : Type 0 where
  pub kinds : List ℕ
  pub offsets : List ℕ
  pub lens : List ℕ
  pub digests : List ℕ
  pub changed : List ℕ
  pub answered : List ℕ

abbrev pub log_of : (kinds offsets lens digests changed answered : List ℕ) → Log
log_of k o l d c a = record { kinds = k; offsets = o; lens = l; digests = d; changed = c; answered = a }

-- the log with an operation at an index
abbrev pub logged : Log → (index : ℕ) → Entry → Log
logged l i e =
    log_of (set l.kinds i e.kind) (set l.offsets i e.offset) (set l.lens i e.len)
    (set l.digests i e.digest) (set l.changed i e.changed) (set l.answered i e.answered)

-- "Record marks hold an id or "end" and the operation count.": the code is 1 for an id and 0 for "end"
pub record Marks : Type 0 where
  pub codes : List ℕ
  pub ids : List ℕ
  pub places : List ℕ

abbrev pub marks_of : (codes ids places : List ℕ) → Marks
marks_of c i p = record { codes = c; ids = i; places = p }

-- a mark: its code, its id (0 for "end") and its operation count
pub record Mark : Type 0 where
  pub code : ℕ
  pub id : ℕ
  pub place : ℕ

abbrev pub mark_of : (code id place : ℕ) → Mark
mark_of c i p = record { code = c; id = i; place = p }

-- a mark of an id, or of none: an end
abbrev pub mark_with : Option ℕ → (place : ℕ) → Mark
mark_with (Some id) p = mark_of 1 id p
mark_with None p = mark_of 0 0 p

-- the marks with one at an index
abbrev pub marked : Marks → (index : ℕ) → Mark → Marks
marked m i x = marks_of (set m.codes i x.code) (set m.ids i x.id) (set m.places i x.place)
