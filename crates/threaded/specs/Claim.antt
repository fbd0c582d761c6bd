-- Document 01, "Demand 3": what is claimed of the session, for every told, fresh session and list of calls. Definitions only; assumes
-- nothing.
use Rattle.std.specs.Prelude.{◌≡◌, List, [], ◌∷◌, length, leb}
use Rattle.basics.specs.Tests.{unless, refuse_if, first_of}
use Rattle.session.specs.declared.Told.{Told}
use Rattle.ledger.specs.Ledger.{Entered, entries_uneven, ledgered_by}
use Rattle.plain.specs.Plain.{Call, Run, plain}
use Rattle.plain.specs.Ledger.{ledger}
use Rattle.threaded.specs.Threaded.{Session, threaded, session_ledger, session_ledgered}

-- the plain run of the same calls, from the media as the start left them
abbrev pub plain_of : Told → Session → List Call → Run
plain_of t s xs = plain t s.media xs

-- "what the session answers, leaves on the media and puts into the ledger is document 01's plain run": its answers, its media, its stop, how
-- many operations it recorded, and its ledger; and `ledger` refuses only where its own columns are unequal (12) or too short (13)
pub record SameAsPlain (t : Told) (s : Session) (xs : List Call) : Type 0 where
  pub answers : (threaded t s xs).answers ≡ (plain_of t s xs).answers
  pub media : (threaded t s xs).session.media ≡ (plain_of t s xs).media
  pub stop : (threaded t s xs).session.counters.stop ≡ (plain_of t s xs).stop
  pub operations : (threaded t s xs).session.counters.operations ≡ length (plain_of t s xs).ops
  pub entries : session_ledger t (threaded t s xs).session ≡ ledger (plain_of t s xs)
  pub derived : (e : Entered) → session_ledgered t (threaded t s xs).session e
      ≡ ledgered_by
      (first_of
      (refuse_if (entries_uneven (length e.ids) (length e.states) (length e.torn)) 12
      ∷ unless (leb (length (ledger (plain_of t s xs))) (length e.ids)) 13
      ∷ []))
      (ledger (plain_of t s xs)) e
