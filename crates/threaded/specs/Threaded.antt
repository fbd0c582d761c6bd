-- Document 01, "Demand 3": a list of calls through the session, by the definitions that its functions' contracts cite. "Each call is
-- handed counters, media, copy, log and marks as the start or the call before left them". Definitions only; assumes nothing.
use Rattle.std.specs.Prelude.{◌≡◌, List, [], ◌∷◌, ℕ, length}
use Rattle.model.specs.Ledger.{Entry}
use Rattle.session.specs.declared.Told.{Told}
use Rattle.session.specs.declared.Counters.{Counters}
use Rattle.session.specs.Log.{Log, Marks}
use Rattle.session.specs.Tests.{start_test}
use Rattle.session.specs.Start.{fresh}
use Rattle.session.specs.Barrier.{Ordered, barriered}
use Rattle.session.specs.Marks.{Noted, begun, ended}
use Rattle.session.specs.Written.{Written}
use Rattle.session_erase.specs.Erase.{erase_call}
use Rattle.session_program.specs.Program.{program_call}
use Rattle.records.specs.Records.{begin, end}
use Rattle.ledger.specs.Ledger.{Entered, Ledgered, ledger_of_run, ledger_call}
use Rattle.plain.specs.Plain.{program, erase, barrier, Call, act, mark}

-- all that goes from call to call
pub record Session : Type 0 where
  pub counters : Counters
  pub media : List ℕ
  pub copy : List ℕ
  pub log : Log
  pub marks : Marks

-- "Fresh is a session whose start was not refused, before any call". The copy and the columns hold anything; so may the media, which a
-- start leaves as a new device's.
pub record Fresh (t : Told) (s : Session) : Type 0 where
  pub not-refused : start_test t.geometry (length s.media) (length s.copy) s.log s.marks ≡ 0
  pub before-any : s.counters ≡ fresh

-- a call's answer, and all that the next call is handed
pub record Answered : Type 0 where
  pub answer : ℕ
  pub session : Session

abbrev pub after_write : Session → Written → Answered
after_write s w = record {
  answer = w.reply.answer;
  session = record { counters = w.reply.counters; media = w.media; copy = w.copy; log = w.log; marks = s.marks };
}

abbrev pub after_barrier : Session → Ordered → Answered
after_barrier s o = record {
  answer = o.reply.answer;
  session = record { counters = o.reply.counters; media = s.media; copy = s.copy; log = o.log; marks = s.marks };
}

abbrev pub after_mark : Session → Noted → Answered
after_mark s n = record {
  answer = n.reply.answer;
  session = record { counters = n.reply.counters; media = s.media; copy = s.copy; log = s.log; marks = n.marks };
}

-- one call
unfoldable pub answered : Told → Session → Call → Answered
answered t s (act (program offset bytes)) = after_write s (program_call t s.counters offset bytes s.media s.copy s.log)
answered t s (act (erase offset len)) = after_write s (erase_call t s.counters offset len s.media s.copy s.log)
answered t s (act barrier) = after_barrier s (barriered t s.counters s.log)
answered t s (mark (begin id)) = after_mark s (begun s.counters id s.marks)
answered t s (mark end) = after_mark s (ended s.counters s.marks)

-- the answers to a list of calls, and the session after it
pub record Threaded : Type 0 where
  pub answers : List ℕ
  pub session : Session

unfoldable pub threaded : Told → Session → List Call → Threaded
threaded t s [] = record { answers = []; session = s }
threaded t s (x ∷ xs) =
    let next : Threaded = threaded t (answered t s x).session xs in
    record { answers = (answered t s x).answer ∷ next.answers; session = next.session }

-- the ledger of a session, and what `ledger` leaves in lent columns
abbrev pub session_ledger : Told → Session → List Entry
session_ledger t s = ledger_of_run t s.counters s.media s.copy s.log s.marks

abbrev pub session_ledgered : Told → Session → Entered → Ledgered
session_ledgered t s e = ledger_call t s.counters s.media s.copy s.log s.marks e
