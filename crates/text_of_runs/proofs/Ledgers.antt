-- The ledger of a script's run is never refused, and its columns hold it.
--     cells-long       media of zeros are of capacity length
--     opened-is        a session over columns of zeros is the opened one
--     codes-known      every code among those counted has a meaning, after any script's run
--     ledger-passes    no number refuses its ledger
--     few-entries      it has at most 512 entries
--     run-ended        so a run that its rows do not refuse ends
--     run-reads        and the first rows of the ledger's columns are the ledger
-- Assumes nothing.
use mathlib.Core.Path.{◌≡◌, ap, ◌∙◌}
use mathlib.Core.Bool.{true, false}
use mathlib.Core.List.{List}
use Prim.Native.Nat.{ℕ, ◌≤◌}
use native.Mathlib.Nat.{le_trans}
use Rattle.std.proofs.lemmas.List.{take-replicate}
use lib.ListN.{length, replicate, length-replicate}
use lib.Seq.{length-take-le}
use lib.Dec.{leb}
use borrow.Author.Tests.{eq-eqb, le-leb, le-ltb}
use Rattle.basics.specs.Tests.{unless, refuse_if, first_of}
use Rattle.device.specs.Media.{new_media}
use Rattle.model.specs.Ledger.{Entry}
use Rattle.session.specs.Armed.{Armed}
use Rattle.session.specs.declared.Told.{Told}
use Rattle.session.specs.Log.{log_of, marks_of}
use Rattle.session.specs.Tests.{size_test, log_uneven_of, marks_uneven_of}
use Rattle.session.specs.Start.{fresh}
use Rattle.std.specs.Prelude.{Ok as Entries}
use Rattle.ledger.specs.Ledger.{codes_known, counts_short, ledger_number, entries_uneven, entered, ledgered, ledger_call}
use Rattle.ledger.proofs.Readback.{first_rows, ledger_in, refused_in, reads-back}
use Rattle.ledger.proofs.Sanity.{ledger-few}
use Rattle.threaded.specs.Threaded.{Session, session_ledger, session_ledgered}
use Rattle.script.specs.declared.Head.{Head}
use Rattle.script.specs.Calls.{Call}
use Rattle.script.specs.Columns.{Columns}
use Rattle.script.specs.Held.{calls_in}
use Rattle.steps.specs.Writer.{Wrote, wrote}
use Rattle.sweeps.specs.Sweep.{told_by, opened_by, run_by}
use Rattle.harness_runs.specs.Running.{Ended, zeros, RunLeft, run_left, left_by, ledgered_with, opening, run_number, run_call, no_entries, cells, ran_on}
use Rattle.text_of_runs.specs.Steady.{Steady}
use Rattle.text_of_runs.proofs.Codes.{take-known}
use Rattle.text_of_runs.proofs.Steady.{run-steady}

-- ---- columns of zeros

zeros-long : (n : ℕ) → length (zeros n) ≡ n
unfolding zeros
zeros-long n = length-replicate {A = ℕ} n 0

-- media and copy of capacity length
pub cells-long : (h : Head) → h.geometry.capacity ≤ 16384 → length (cells h) ≡ h.geometry.capacity
cells-long h small = length-take-le h.geometry.capacity (zeros 16384) (rw (zeros-long 16384) small)

-- what a run starts from is the opened session
pub opened-is : (h : Head) → h.geometry.capacity ≤ 16384 → opening (cells h) (cells h) (zeros 1024) (zeros 1024) (zeros 1024) ≡ opened_by h
unfolding zeros
opened-is h small =
    let a : new_media (length (cells h)) ≡ new_media h.geometry.capacity = ap new_media (cells-long h small) in
    let b : cells h ≡ replicate h.geometry.capacity 0 = take-replicate h.geometry.capacity 16384 0 small in
    let column : List ℕ = replicate 1024 0 in
    let marks : List ℕ = replicate 512 0 in
    λ i. record { counters = fresh; media = a i; copy = b i; log = log_of column column column column column column; marks = marks_of marks marks marks }

-- ---- no number refuses the ledger

module _ (t : Told) (s : Session) (z : Steady t.geometry.capacity s) where
  codes-steady : codes_known s.counters s.log s.marks ≡ true
  unfolding codes_known
  codes-steady =
      let l = z.log-steady in
      rw (
        take-known 2 s.counters.operations s.log.kinds l.kinds-known,
        take-known 1 s.counters.operations s.log.changed l.changed-known,
        take-known 1 s.counters.operations s.log.answered l.answered-known,
        take-known 1 s.counters.marks s.marks.codes z.marks-steady.codes-known,
      )

  sizes-pass : size_test t.geometry (length s.media) (length s.copy) ≡ 0
  unfolding size_test refuse_if
  sizes-pass = rw (eq-eqb _ _ z.media-long, eq-eqb _ _ z.copy-long)

  counts-long : counts_short s.counters (length s.log.kinds) (length s.marks.codes) ≡ false
  unfolding counts_short
  counts-long =
      rw (
        z.log-steady.kinds-long,
        z.marks-steady.codes-long,
        le-ltb 1024 s.counters.operations z.few-operations,
        le-ltb 512 s.counters.marks z.few-marks,
      )

  log-even : log_uneven_of s.log ≡ false
  log-even =
      let l = z.log-steady in
      rw (l.kinds-long, l.offsets-long, l.lens-long, l.digests-long, l.changed-long, l.answered-long)

  marks-even : marks_uneven_of s.marks ≡ false
  marks-even =
      let m = z.marks-steady in
      rw (m.codes-long, m.ids-long, m.places-long)

  entries-even : entries_uneven (length no_entries.ids) (length no_entries.states) (length no_entries.torn) ≡ false
  entries-even = rw (zeros-long 512)

  -- at most as many entries as marks
  ledger-fits : leb (length (session_ledger t s)) (length no_entries.ids) ≡ true
  ledger-fits =
      rw (zeros-long 512) (le-leb _ _ (le_trans (ledger-few t s.counters s.media s.copy s.log s.marks) z.few-marks))

  -- a steady session's ledger is not refused: sizes, lengths, codes and counts all pass, and the ledger fits 512 rows
  pub ledger-passes : ledger_number t s.counters s.media s.copy s.log s.marks (length no_entries.ids) (length no_entries.states) (length no_entries.torn) ≡ 0
  unfolding ledger_number first_of unless refuse_if
  ledger-passes = rw (sizes-pass, log-even, marks-even, entries-even, codes-steady, counts-long, ledger-fits)

  -- so `ledger` answers how many entries there are, and leaves them in the first rows
  pub ledger-is : session_ledgered t s no_entries ≡ ledgered (Entries (length (session_ledger t s))) (entered (session_ledger t s) no_entries)
  unfolding ledger_call
  ledger-is = rw ledger-passes

-- ---- after any script's run

-- every kind, both answers of yes or no and every mark's code have a meaning
pub codes-known : (h : Head) (xs : List Call) (a : Armed)
    → codes_known (run_by h xs a).session.counters (run_by h xs a).session.log (run_by h xs a).session.marks ≡ true
codes-known h xs a = codes-steady (told_by h a) (run_by h xs a).session (run-steady h xs a)

-- a run's ledger has at most 512 entries
pub few-entries : (h : Head) (xs : List Call) (a : Armed) → length (session_ledger (told_by h a) (run_by h xs a).session) ≤ 512
few-entries h xs a =
    let s : Session = (run_by h xs a).session in
    le_trans (ledger-few (told_by h a) s.counters s.media s.copy s.log s.marks) (run-steady h xs a).few-marks

-- ---- a run that its rows do not refuse

module _ (h : Head) (a : Armed) (rows : ℕ) (k : Columns) (xs : List Call) (holds : calls_in rows k ≡ xs) (small : h.geometry.capacity ≤ 16384)
    (none : run_number h rows k (length (cells h)) (length (cells h)) ≡ 0) where
  -- the script's run
  abbrev wrote-all : Wrote
  wrote-all = run_by h xs a

  abbrev ran : Session
  ran = wrote-all.session

  abbrev entries : List Entry
  entries = session_ledger (told_by h a) ran

  at_call : ran_on h a rows k ≡ ledgered_with (told_by h a) wrote-all no_entries
  unfolding ran_on run_call run_by
  at_call =
      rw (none, holds)
      (ap (λ (s : Session). ledgered_with (told_by h a) (wrote (told_by h a) h.carries_on s xs) no_entries) (opened-is h small))

  abbrev left : RunLeft
  left =
      run_left (Ended ran.counters.stop ran.counters.operations (length entries) wrote-all.failed) ran.media ran.copy ran.log.kinds ran.log.offsets ran.log.lens (entered entries no_entries)

  -- the run ends, with the stop, the operations and the entries of the script's run
  pub run-ended : ran_on h a rows k ≡ left
  run-ended = at_call ∙ ap (left_by wrote-all) (ledger-is (told_by h a) ran (run-steady h xs a))

  -- the first rows of the ledger's columns
  pub run-reads : (ledger_in (first_rows (length entries) (ran_on h a rows k).entries) ≡ entries)
      × (refused_in (first_rows (length entries) (ran_on h a rows k).entries) ≡ 0)
  run-reads =
      rw run-ended
      (reads-back (told_by h a) ran.counters ran.media ran.copy ran.log ran.marks no_entries (length entries) (entered entries no_entries)
      (ledger-is (told_by h a) ran (run-steady h xs a)))
