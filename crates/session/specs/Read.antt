-- Document 01, "session.rs (974)" and "Numbers from the state": what a read answers, and what it leaves. Definitions only; assumes nothing.
use Rattle.std.specs.Prelude.{cond, List, [], ◌∷◌, ℕ, length, eqb}
use Rattle.basics.specs.Tests.{first_of}
use Rattle.basics.specs.Parts.{part}
use Rattle.storage.specs.Geometry.{geometry_test}
use Rattle.storage.specs.Span.{read_test}
use Rattle.device_calls.specs.Calls.{media_test, buffer_test}
use Rattle.landing.specs.Ending.{stop_number}
use Rattle.session.specs.declared.Told.{Told}
use Rattle.session.specs.declared.Counters.{Counters}

-- "A session call first tests the lengths lent to it (7, 12, 13), then stopped, then geometry": a read is lent the media and a buffer,
-- told by their lengths; "6 for a buffer comes before 4 and 5"
unfoldable pub read_number : Told → Counters → (media offset buffer : ℕ) → ℕ
read_number t c media offset buffer =
    first_of
    (media_test t.geometry media
    ∷ stop_number c.stop
    ∷ geometry_test t.geometry
    ∷ buffer_test buffer
    ∷ read_test t.geometry offset buffer
    ∷ [])

-- what a read leaves: its answer and the buffer. It is no operation: the counters and the log stay.
pub record Fetched : Type 0 where
  pub answer : ℕ
  pub buffer : List ℕ

abbrev pub fetched : (answer : ℕ) → List ℕ → Fetched
fetched a b = record { answer = a; buffer = b }

-- a read that its tests refuse answers their number and leaves the buffer; any other fills it with the cells from offset on
abbrev pub fetched_by : (number : ℕ) → (media : List ℕ) (offset : ℕ) (buffer : List ℕ) → Fetched
fetched_by number media offset buffer = cond (eqb number 0) (fetched 0 (part media offset (length buffer))) (fetched number buffer)

unfoldable pub read_by : Told → Counters → (media : List ℕ) (offset : ℕ) (buffer : List ℕ) → Fetched
read_by t c media offset buffer = fetched_by (read_number t c (length media) offset (length buffer)) media offset buffer
