-- Document 01, "session.rs (974)": what a barrier answers, and what it leaves. Definitions only; assumes nothing.
use Rattle.std.specs.Prelude.{cond, [], ◌∷◌, ℕ, eqb}
use Rattle.basics.specs.Tests.{flag, first_of}
use Rattle.storage.specs.Geometry.{geometry_test}
use Rattle.landing.specs.Ending.{stop_number}
use Rattle.session.specs.declared.Told.{Told}
use Rattle.session.specs.declared.Counters.{Counters}
use Rattle.session.specs.Replies.{Called}
use Rattle.session.specs.declared.Entry.{Entry}
use Rattle.session.specs.Log.{Log, logged}
use Rattle.session.specs.Tests.{log_test, operation_test}
use Rattle.session.specs.Armed.{Armed, armed_on, barrier_ran, ended_by, replied}

-- "A session call first tests the lengths lent to it (7, 12, 13), then stopped, then geometry, then 20, then 27."
-- (`log` is the number of the log's columns)
unfoldable pub barrier_number : Told → Counters → (log : ℕ) → ℕ
barrier_number t c log =
    first_of (log ∷ stop_number c.stop ∷ geometry_test t.geometry ∷ operation_test c.operations ∷ [])

abbrev pub barrier_test : Told → Counters → Log → ℕ
barrier_test t c l = barrier_number t c (log_test l)

-- the reply to a barrier that is taken with `armed` armed on it
abbrev pub barrier_reply_by : Counters → Armed → Called
barrier_reply_by c a = replied c a (ended_by a (barrier_ran a))

unfoldable pub barrier_reply : Told → Counters → Called
barrier_reply t c = barrier_reply_by c (armed_on t.armed c.operations)

-- as the log has it: no span, digest 0, no cell changed; "It acknowledges only if it answered 0."
abbrev pub barrier_entry : (answer : ℕ) → Entry
barrier_entry answer = record { kind = 2; offset = 0; len = 0; digest = 0; changed = 0; answered = flag (eqb answer 0) }

-- what a barrier leaves: its reply and the log
pub record Ordered : Type 0 where
  pub reply : Called
  pub log : Log

abbrev pub ordered : Called → Log → Ordered
ordered r l = record { reply = r; log = l }

abbrev pub ordered_by : Counters → Log → Called → Ordered
ordered_by c l r = ordered r (logged l c.operations (barrier_entry r.answer))

-- a call that its tests refuse answers their number and changes nothing
unfoldable pub barriered : Told → Counters → Log → Ordered
barriered t c l =
    cond (eqb (barrier_test t c l) 0) (ordered_by c l (barrier_reply t c)) (ordered (record { answer = barrier_test t c l; counters = c }) l)
