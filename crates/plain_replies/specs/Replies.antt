-- Document 01, "Demand 3", said of what the functions answer and leave: `start`, the session's calls and `ledger`, and `replay`, which is all
-- of them in one; the verdict is `verify_oracle`'s over the columns that they left. `threaded` specs/Demand3 has the theorems, over the
-- definitions that the functions' promises cite. The proofs are `replies` and `replays` in proofs/Whole.antt. Definitions only; assumes
-- nothing.
use Rattle.std.specs.Prelude.{◌↔◌, ◌≡◌, None as Nothing, Some as At, Ok, List, [], ℕ, ◌<◌, length, take}
use Rattle.inject.specs.declared.Injection.{Injection}
use Rattle.id_columns.specs.Ids.{Distinct}
use Rattle.model.specs.Ledger.{Entry}
use Rattle.model.specs.Columns.{ledger_of}
use Rattle.oracle.specs.Verdict.{Banks, Verdict, Accepted, verified}
use Rattle.oracle_legal.specs.Legal.{AbsentOrOne}
use Rattle.session.specs.declared.Told.{Told}
use Rattle.session.specs.declared.Counters.{Counters}
use Rattle.session.specs.Armed.{cut_by}
use Rattle.session.specs.Log.{Log, Marks}
use Rattle.session.specs.Tests.{size_test, log_test, marks_test}
use Rattle.session.specs.Start.{opened, started}
use Rattle.ledger.specs.Ledger.{Entered, ledgered}
use Rattle.plain.specs.Plain.{Call, Run}
use Rattle.plain.specs.Ledger.{records, begun, ledger}
use Rattle.plain.specs.Claims.{CutOnce, OnlyTheLast, FirstOfCommitted, AllInOrder, Keeps}
use Rattle.threaded.specs.Threaded.{Session, Fresh, threaded, session_ledgered}
use Rattle.threaded.specs.Claim.{plain_of}
use Rattle.threaded.specs.Demand3.{Demand3}
use Rattle.script.specs.Columns.{Columns}
use Rattle.steps.specs.Step.{session_of}
use Rattle.replay.specs.Replay.{Lent, run_of, replayed, replay_call}

-- ---- the columns of a ledger, of which a call said that they have n entries

-- the ledger that they hold
abbrev pub ledger_in : (n : ℕ) → Entered → List Entry
ledger_in n e = ledger_of (take n e.ids) (take n e.states) (take n e.torn)

-- what `verify_oracle` answers of them, with nothing dispatched
abbrev pub judged_in : (n : ℕ) → Entered → (history : List ℕ) → Banks → Verdict
judged_in n e h b = verified (take n e.ids) (take n e.states) (take n e.torn) h [] b

-- demand 3 of them, where the plain run is `run`: they hold its ledger, 2, and 3 of the verdict
pub record Judged (run : Run) (n : ℕ) (e : Entered) : Type 0 where
  pub holds : ledger_in n e ≡ ledger run
  pub only-the-last : OnlyTheLast (ledger_in n e)
  pub accepts : Distinct (begun run.marks) → (b : Banks) → AbsentOrOne b → (h : List ℕ)
      → (judged_in n e h b ≡ Accepted) ↔ FirstOfCommitted (ledger_in n e) h

-- ---- `start`, the calls, `ledger`

-- a fresh session was handed these calls, and then `ledger` answered n entries and left `e`
pub record Derives (t : Told) (s : Session) (xs : List Call) (n : ℕ) (e : Entered) : Type 0 where
  pub fresh : Fresh t s
  pub lent : Entered
  pub derives : session_ledgered t (threaded t s xs).session lent ≡ ledgered (Ok n) e

pub record Replies : Type 0 where
  -- whatever a start left that was not refused, demand 3 is due of it
  pub after-a-start : (t : Told) (media copy : List ℕ) (l : Log) (m : Marks) (c : Counters) (left : List ℕ)
      → started t media (length copy) l m ≡ opened (Ok c) left → (xs : List Call)
      → Fresh t (session_of c left copy l m) × Demand3 t (session_of c left copy l m) xs
  -- 7, and 12 and 13 of log and marks, refuse no call of a list, nor `ledger` after it
  pub lengths-stay : (t : Told) (s : Session) → Fresh t s → (xs : List Call)
      → (size_test t.geometry (length (threaded t s xs).session.media) (length (threaded t s xs).session.copy) ≡ 0)
      × (log_test (threaded t s xs).session.log ≡ 0) × (marks_test (threaded t s xs).session.marks ≡ 0)
  -- 1 to 3, of the columns that `ledger` left, and of `verify_oracle`
  pub judged : (t : Told) (s : Session) (xs : List Call) (n : ℕ) (e : Entered) → Derives t s xs n e → CutOnce t.armed
      → Judged (plain_of t s xs) n e
  -- 4, of two sessions that started on the same media, each with buffers of its own
  pub later-cuts-keep : (t : Told) (s s' : Session) (xs : List Call) → s.media ≡ s'.media → (j k : Injection) → CutOnce (At j) → CutOnce (At k)
      → j.op < k.op → AllInOrder (records (plain_of (cut_by t Nothing) s xs)) → (n n' : ℕ) (e e' : Entered)
      → Derives (cut_by t (At j)) s xs n e → Derives (cut_by t (At k)) s' xs n' e' → Keeps (ledger_in n e) (ledger_in n' e')
  pub uncut-keeps : (t : Told) (s s' : Session) (xs : List Call) → s.media ≡ s'.media → (j : Injection) → CutOnce (At j)
      → AllInOrder (records (plain_of (cut_by t Nothing) s xs)) → (n n' : ℕ) (e e' : Entered)
      → Derives (cut_by t (At j)) s xs n e → Derives (cut_by t Nothing) s' xs n' e' → Keeps (ledger_in n e) (ledger_in n' e')

-- ---- `replay`

-- `replay` answered n entries and left `y`
abbrev pub Replays : Told → (rows : ℕ) → Columns → (x : Lent) → (n : ℕ) → (y : Lent) → Type 0
Replays t rows k x n y = replay_call t rows k x ≡ replayed (Ok n) y

pub record Replayed : Type 0 where
  -- 1: the answers and the media that it left are the plain run's; 1 to 3 of its ledger
  pub answers : (t : Told) (rows : ℕ) (k : Columns) (x : Lent) (n : ℕ) (y : Lent) → Replays t rows k x n y
      → take (length (run_of t rows k x).answers) y.answers ≡ (run_of t rows k x).answers
  pub media : (t : Told) (rows : ℕ) (k : Columns) (x : Lent) (n : ℕ) (y : Lent) → Replays t rows k x n y → y.media ≡ (run_of t rows k x).media
  pub judged : (t : Told) (rows : ℕ) (k : Columns) (x : Lent) (n : ℕ) (y : Lent) → Replays t rows k x n y → CutOnce t.armed
      → Judged (run_of t rows k x) n y.entries
  -- 4, of two of them, each with buffers of its own
  pub later-cuts-keep : (t : Told) (rows : ℕ) (k : Columns) (x x' : Lent) (i j : Injection) → CutOnce (At i) → CutOnce (At j) → i.op < j.op
      → AllInOrder (records (run_of (cut_by t Nothing) rows k x)) → (n n' : ℕ) (y y' : Lent)
      → Replays (cut_by t (At i)) rows k x n y → Replays (cut_by t (At j)) rows k x' n' y'
      → Keeps (ledger_in n y.entries) (ledger_in n' y'.entries)
  pub uncut-keeps : (t : Told) (rows : ℕ) (k : Columns) (x x' : Lent) (i : Injection) → CutOnce (At i)
      → AllInOrder (records (run_of (cut_by t Nothing) rows k x)) → (n n' : ℕ) (y y' : Lent)
      → Replays (cut_by t (At i)) rows k x n y → Replays (cut_by t Nothing) rows k x' n' y'
      → Keeps (ledger_in n y.entries) (ledger_in n' y'.entries)
