-- Document 01, "Scripts and the two programs": a script's run with at most one injection, and its ledger. Definitions only; assumes nothing.
use Rattle.std.specs.Prelude.{Bool, false, cond, List, Result, Ok, Err, ℕ, length, take, replicate, eqb, Ok as Entries, Err as NotDerived}
use Rattle.device.specs.Media.{new_media}
use Rattle.refusals.specs.declared.Refusal.{Refusal}
use Rattle.refusals.specs.Numbers.{number_of}
use Rattle.landing.specs.declared.Stop.{Stop}
use Rattle.harness_runs.specs.declared.Run.{Run}
use Rattle.session.specs.Armed.{Armed}
use Rattle.session.specs.declared.Told.{Told}
use Rattle.session.specs.declared.Counters.{Counters}
use Rattle.session.specs.Log.{log_of, marks_of}
use Rattle.session.specs.Start.{fresh}
use Rattle.ledger.specs.Ledger.{Derived, Entered, entered_of, Ledgered}
use Rattle.threaded.specs.Threaded.{Session, session_ledgered}
use Rattle.script.specs.declared.Head.{Head}
use Rattle.script.specs.Columns.{Columns}
use Rattle.script.specs.Held.{calls_in}
use Rattle.rows.specs.Rows.{rows_number}
use Rattle.steps.specs.Writer.{Wrote, wrote}
use Rattle.sweeps.specs.Sweep.{told_by}

-- how a run ended: the session's stop, the operations recorded, how many entries its ledger has, and whether the writer returned an
-- error; or the number that refuses the run
pub data Ran : Type 0 where
  Ended : Stop → (operations entries : ℕ) → (failed : Bool) → Ran
  NotRun : (number : ℕ) → Ran

-- the code's answer so
abbrev pub ran_as : Result Run Refusal → Ran
ran_as (Ok r) = Ended r.stop r.operations r.entries r.failed
ran_as (Err e) = NotRun (number_of e)

-- so many zeros
unfoldable pub zeros : ℕ → List ℕ
zeros n = replicate n 0

-- the stop, the operations recorded, how many entries, and whether the writer returned an error; the ledger of a script's run is never
-- refused (`ledger-passes` of `text_of_runs`)
abbrev pub ended_by : Counters → (failed : Bool) → Derived → Ran
ended_by c failed (Entries count) = Ended c.stop c.operations count failed
ended_by c failed (NotDerived number) = NotRun number

-- what is left: the reply, media and copy, the recorded operations' kinds, offsets and lengths, and the ledger
pub record RunLeft : Type 0 where
  pub reply : Ran
  pub media : List ℕ
  pub copy : List ℕ
  pub kinds : List ℕ
  pub offsets : List ℕ
  pub lens : List ℕ
  pub entries : Entered

abbrev pub run_left : Ran → (media copy kinds offsets lens : List ℕ) → Entered → RunLeft
run_left r d c k o l e = record { reply = r; media = d; copy = c; kinds = k; offsets = o; lens = l; entries = e }

abbrev pub left_by : Wrote → Ledgered → RunLeft
left_by w d =
    run_left (ended_by w.session.counters w.failed d.reply) w.session.media w.session.copy w.session.log.kinds w.session.log.offsets w.session.log.lens d.columns

-- a writer's end, with its ledger
abbrev pub ledgered_with : Told → Wrote → Entered → RunLeft
ledgered_with t w e = left_by w (session_ledgered t w.session e)

-- a session on a new device's media, before any call: copy, kinds, offsets and lengths as they were lent
abbrev pub opening : (media copy kinds offsets lens : List ℕ) → Session
opening media copy k o l = record {
  counters = fresh;
  media = new_media (length media);
  copy = copy;
  log = log_of k o l (zeros 1024) (zeros 1024) (zeros 1024);
  marks = marks_of (zeros 512) (zeros 512) (zeros 512);
}

-- "the lowest number comes first": 1 to 3, 7, 12, 13. All else that is lent are arrays of a session's limits.
abbrev pub run_number : Head → (rows : ℕ) → Columns → (media copy : ℕ) → ℕ
run_number h rows k media copy = rows_number h.geometry media copy false false 5 rows k

-- the writer's lines through that session, and its ledger; a refused call changes nothing
unfoldable pub run_call : Head → Armed → (rows : ℕ) → Columns → (media copy kinds offsets lens : List ℕ) → Entered → RunLeft
run_call h a rows k media copy ks os ls e =
    cond (eqb (run_number h rows k (length media) (length copy)) 0)
    (ledgered_with (told_by h a) (wrote (told_by h a) h.carries_on (opening media copy ks os ls) (calls_in rows k)) e)
    (run_left (NotRun (run_number h rows k (length media) (length copy))) media copy ks os ls e)

-- ---- over columns of zeros

abbrev pub no_entries : Entered
no_entries = entered_of (zeros 512) (zeros 512) (zeros 512)

-- media of capacity length, at most 16,384
abbrev pub cells : Head → List ℕ
cells h = take h.geometry.capacity (zeros 16384)

unfoldable pub ran_on : Head → Armed → (rows : ℕ) → Columns → RunLeft
ran_on h a rows k = run_call h a rows k (cells h) (cells h) (zeros 1024) (zeros 1024) (zeros 1024) no_entries
