-- What the private functions of `src/` answer. No public contract cites these. Assumes nothing.
use Rattle.std.specs.Prelude.{Bool, not, ◌||◌, ◌≡◌, ℕ, ◌≤◌, length, Option, Some, None}
use Rattle.records.specs.Records.{Label, begin, end, RecordMark}
use Rattle.ledger.specs.Ledger.{label_of, counts_short}
use Rattle.held.specs.declared.Mark.{Mark}
use Rattle.held.specs.Held.{Recorded, uneven_in, known_in}

-- ---- one run's columns: the tests of 12, and of 13

unfoldable pub malformed : Recorded → Bool
malformed x = uneven_in x || not (known_in x.counters x.kinds x.codes)

unfoldable pub short_in : Recorded → Bool
short_in x = counts_short x.counters (length x.kinds) (length x.codes)

-- ---- the marks

-- a row of the marks' columns
abbrev pub mark_of : (code id place : ℕ) → RecordMark
mark_of c i p = record { label = label_of c i; place = p }

-- and a mark that is read
abbrev pub label_as : Option ℕ → Label
label_as None = end
label_as (Some id) = begin id

abbrev pub marked_as : Mark → RecordMark
marked_as m = record { label = label_as m.id; place = m.place }

-- columns of one length each, which hold all that is counted
pub record Fits (x : Recorded) : Type 0 where
  pub offsets : length x.offsets ≡ length x.kinds
  pub lens : length x.lens ≡ length x.kinds
  pub digests : length x.digests ≡ length x.kinds
  pub ids : length x.ids ≡ length x.codes
  pub places : length x.places ≡ length x.codes
  pub operations : x.counters.operations ≤ length x.kinds
  pub marks : x.counters.marks ≤ length x.codes
