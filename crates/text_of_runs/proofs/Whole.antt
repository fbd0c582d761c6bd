-- For every text, what the functions give is what document 01 says is printed.
--     lines_are      the lines of a list of runs, by place
--     printed        the three ways of a program
-- Assumes nothing.
use mathlib.Core.Path.{◌≡◌, refl, sym, ap, ap₂, ◌∙◌}
use mathlib.Core.Bool.{Bool, true, false}
use mathlib.Core.List.{List, [], ◌∷◌, ◌++◌, append-nil, flatten}
use Prim.Native.Nat.{ℕ, suc, ◌+◌, ◌≤◌, ◌<◌}
use native.Mathlib.Nat.{add-zero, le_trans}
use native.Mathlib.Omega.{arith}
use lib.ListN.{length, get_or}
use Rattle.storage.specs.Geometry.{geometry_test}
use Rattle.model.specs.Answers.{Written}
use Rattle.session.specs.Armed.{Armed}
use Rattle.std.specs.Prelude.{None as Nothing}
use Rattle.ledger.specs.Ledger.{Entered}
use Rattle.ledger.proofs.Readback.{ledger_in, refused_in}
use Rattle.threaded.specs.Threaded.{Session}
use Rattle.script.specs.declared.Head.{Head}
use Rattle.script.specs.Columns.{Read, Columns, bytes_of, written, after, read_into}
use Rattle.script.specs.Calls.{Call}
use Rattle.script.specs.Script.{Script, script, refused, script_of}
use Rattle.script.specs.Held.{calls_in}
use Rattle.script.proofs.Kept.{calls-kept}
use Rattle.script.proofs.Rooms.{never-short}
use Rattle.history.specs.History.{suggested}
use Rattle.lines.specs.Lines.{Shown, sweep_line, judge_line, runs_line, refused_text, lines_from, sweep_text, judge_text}
use Rattle.sweeps.specs.Sweep.{run_by, points_of, Swept, runs, not_swept, swept_of, printed_by}
use Rattle.sweeps.specs.Decided.{meets26, run_shown, runs_shown, decided_by, decided_script}
use Rattle.sweeps.proofs.Decided.{swept-script}
use Rattle.harness.specs.Opening.{open_on}
use Rattle.harness_runs.specs.Running.{RunLeft, run_number, cells, ran_on}
use Rattle.text_of_runs.specs.Lent.{Sheet}
use Rattle.text_of_runs.specs.Printout.{lines_of_runs, lines_by, sweep_lines, judge_lines}
use Rattle.text_of_runs.specs.Claim.{rows_to, RunPrinted, PlacePrinted, SweepPrinted, Claim, run_lines, Outputs, Printed, unread, unswept, swept}
use Rattle.text_of_runs.proofs.Sheets.{head-passes, head_small, rows_pass}
use Rattle.text_of_runs.proofs.Ledgers.{cells-long, run-ended, run-reads, few-entries}
use Rattle.text_of_runs.proofs.RunLines.{suggested-few, sweep-written, judge-history, history-first, judge-written}
use Rattle.text_of_runs.proofs.Steady.{run-steady}
use Rattle.text_of_runs.proofs.Counts.{points-few}
use Rattle.text_of_runs.proofs.Short.{sweep-short, judge-short}
use Rattle.text_of_runs.proofs.Openings.{left, open_is, armed_at, placed-is, shown-at, runs-count}

-- ---- lines by place

module _ (f : ℕ → Shown → List ℕ) (line : ℕ → List ℕ) (d : Shown) where
  lines-from : (rs : List Shown) (p : ℕ) → ((i : ℕ) → i < length rs → f (p + i) (get_or rs i d) ≡ line (p + i)) → lines_of_runs f p rs ≡ run_lines line (length rs) p
  unfolding lines_of_runs run_lines
  lines-from [] p e = refl
  lines-from (r ∷ rs) p e =
      let first : f p r ≡ line p = ap (λ (n : ℕ). f n r) (sym (add-zero p)) ∙ e 0 (omega arith) ∙ ap line (add-zero p) in
      ap₂ (λ (a : List ℕ) (b : List (List ℕ)). a ∷ b) first (lines-from rs (suc p) (λ i b. next i (e (suc i) (omega arith))))
    where
      next : (i : ℕ) → f (p + suc i) (get_or rs i d) ≡ line (p + suc i) → f (suc p + i) (get_or rs i d) ≡ line (suc p + i)
      next i q = let s : suc p + i ≡ p + suc i = omega arith in rw s q

  pub lines_are : (rs : List Shown) → ((i : ℕ) → i < length rs → f i (get_or rs i d) ≡ line i) → lines_of_runs f 0 rs ≡ run_lines line (length rs) 0
  lines_are rs e = lines-from rs 0 (λ i b. let s : 0 + i ≡ i = omega arith in rw s (e i b))

-- ---- the two outputs

-- the text of runs is their lines, one after the other
flat-runs : (f : ℕ → Shown → List ℕ) (p : ℕ) (rs : List Shown) → lines_from f p rs ≡ flatten (lines_of_runs f p rs)
unfolding lines_from lines_of_runs flatten
flat-runs f p [] = refl
flat-runs f p (r ∷ rs) = ap (λ (t : List ℕ). f p r ++ t) (flat-runs f (suc p) rs)

flat-by : (f : ℕ → Shown → List ℕ) (w : Swept) → printed_by (λ (rs : List Shown). runs_line (length rs) ++ lines_from f 0 rs) w ≡ flatten (lines_by f w)
unfolding flatten
flat-by f (runs rs) = ap (λ (t : List ℕ). runs_line (length rs) ++ t) (flat-runs f 0 rs)
flat-by f (not_swept number line) = sym (append-nil (refused_text number line))

outputs-by : (text : List ℕ) (w : Swept) → swept_of text ≡ w → (sweep judge : List (List ℕ)) → lines_by sweep_line w ≡ sweep → lines_by judge_line w ≡ judge
    → Outputs text sweep judge
unfolding sweep_lines judge_lines
outputs-by text w e sweep judge s j = record {
  sweep-lines = ap (lines_by sweep_line) e ∙ s;
  sweep-is = ap (printed_by sweep_text) e ∙ flat-by sweep_line w ∙ ap flatten s;
  judge-lines = ap (lines_by judge_line) e ∙ j;
  judge-is = ap (printed_by judge_text) e ∙ flat-by judge_line w ∙ ap flatten j;
}

-- ---- a script that was read

module _ (text : List ℕ) (h : Head) (xs : List Call) (e : script_of text ≡ script h xs) (k : Columns) (z : Sheet k) where
  abbrev sheet : Columns
  sheet = written xs k

  abbrev passes : geometry_test h.geometry ≡ 0
  passes = head-passes text h xs e

  small : h.geometry.capacity ≤ 16384
  small = head_small text h xs e

  holds : calls_in (length xs) sheet ≡ xs
  holds = calls-kept xs k

  reads : read_into text k ≡ after (Read h (length xs) (length (bytes_of xs))) sheet
  reads =
      never-short text h xs k.kinds k.firsts k.seconds k.thirds k.starts k.pool e z.kinds-long z.firsts-long z.seconds-long z.thirds-long
      z.starts-long z.pool-long

  unrefused : run_number h (length xs) sheet (length (cells h)) (length (cells h)) ≡ 0
  unrefused = rows_pass text h xs e k z (length (cells h)) (length (cells h)) (cells-long h small) (cells-long h small)

  opens : open_on h (length xs) sheet ≡ left h xs passes
  opens = open_is h xs passes (length xs) sheet holds small unrefused

  abbrev fault_free : Session
  fault_free = (run_by h xs Nothing).session

  abbrev points : ℕ
  points = length (points_of h fault_free)

  -- ---- the run at a place

  module _ (place : ℕ) (a : Armed) where
    abbrev shown : Shown
    shown = run_shown h xs a

    abbrev ran : RunLeft
    ran = ran_on h a (length xs) sheet

    abbrev first : Entered
    first = rows_to (length shown.ledger) ran.entries

    reads-ledger : (ledger_in first ≡ shown.ledger) × (refused_in first ≡ 0)
    reads-ledger = run-reads h a (length xs) sheet xs holds small unrefused

    room : (column : List ℕ) → length column ≡ 512 → length (suggested shown.ledger) ≤ length column
    room column c = rw c (le_trans (suggested-few shown.ledger) (few-entries h xs a))

    run-printed : RunPrinted place a ran (sweep_line place shown) (judge_line place shown)
    run-printed = record {
      stop = shown.stop;
      operations = shown.operations;
      count = length shown.ledger;
      rows = first;
      failed = (run_by h xs a).failed;
      ended = ap (λ (x : RunLeft). x.reply) (run-ended h a (length xs) sheet xs holds small unrefused);
      few-entries = few-entries h xs a;
      rows_are = refl;
      swept = sweep-written place shown first.ids first.states first.torn reads-ledger.0 reads-ledger.1;
      history = suggested shown.ledger;
      few-suggested = le_trans (suggested-few shown.ledger) (few-entries h xs a);
      suggests = λ column c. (
        ap (λ (x : Written). x.answer) (judge-history place shown first.ids first.states first.torn reads-ledger.0 reads-ledger.1 column (room column c)),
        history-first place shown first.ids first.states first.torn reads-ledger.0 reads-ledger.1 column (room column c),
      );
      judged = judge-written place shown first.ids first.states first.torn reads-ledger.0 reads-ledger.1;
    }

  -- the line of the run at a place
  abbrev line_by : ((place : ℕ) → Shown → List ℕ) → ℕ → List ℕ
  line_by f place = f place (run_shown h xs (armed_at h xs passes place))

  place-printed : (place : ℕ) → place ≤ points
      → PlacePrinted h (length xs) sheet (left h xs passes) fault_free.counters.operations place (line_by sweep_line place) (line_by judge_line place)
  place-printed place b = record {
    armed = armed_at h xs passes place;
    sweep-short = sweep-short place (run_shown h xs (armed_at h xs passes place)) (few-entries h xs (armed_at h xs passes place));
    judge-short = judge-short place (run_shown h xs (armed_at h xs passes place)) (few-entries h xs (armed_at h xs passes place));
    placed = placed-is h xs passes place b;
    prints = run-printed place (armed_at h xs passes place);
  }

  -- ---- the text

  text-by : (f : (place : ℕ) → Shown → List ℕ)
      → runs_line (length (runs_shown h xs fault_free)) ∷ lines_of_runs f 0 (runs_shown h xs fault_free) ≡ runs_line (suc points) ∷ run_lines (line_by f) (suc points) 0
  text-by f =
      let n : length (runs_shown h xs fault_free) ≡ suc points = runs-count h xs passes in
      let ls : lines_of_runs f 0 (runs_shown h xs fault_free) ≡ run_lines (line_by f) (length (runs_shown h xs fault_free)) 0 =
      lines_are f (line_by f) (run_shown h xs Nothing) (runs_shown h xs fault_free) (λ i b. ap (f i) (shown-at h xs passes i (below i b))) in
      ap₂ (λ (c : ℕ) (t : List (List ℕ)). runs_line c ∷ t) n (ls ∙ ap (λ (c : ℕ). run_lines (line_by f) c 0) n)
    where
      below : (i : ℕ) → i < length (runs_shown h xs fault_free) → i ≤ points
      below i b = let n : length (runs_shown h xs fault_free) ≡ suc points = runs-count h xs passes in omega arith

  decided-is : swept_of text ≡ decided_by h xs (run_by h xs Nothing)
  decided-is = swept-script text ∙ ap decided_script e

  by-ways : (f b : Bool) → (run_by h xs Nothing).failed ≡ f → meets26 h xs ≡ b → Printed text k
  by-ways true b p q =
      unswept h (length xs) (length (bytes_of xs)) sheet (left h xs passes) 24 reads small opens (rw p) (outputs-by text (not_swept 24 0) (decided-is ∙ rw p) _ _ refl refl)
  by-ways false true p q =
      unswept h (length xs) (length (bytes_of xs)) sheet (left h xs passes) 26 reads small opens (rw (p, q)) (outputs-by text (not_swept 26 0) (decided-is ∙ rw (p, q)) _ _ refl refl)
  by-ways false false p q =
      let w : SweepPrinted h (length xs) sheet (left h xs passes) fault_free.counters.operations points (line_by sweep_line) (line_by judge_line) =
      record {
        opened = rw (p, q);
        few-operations = (run-steady h xs Nothing).few-operations;
        few-points = points-few h xs Nothing small;
        at_places = place-printed;
      } in
      swept h (length xs) (length (bytes_of xs)) sheet (left h xs passes) fault_free.counters.operations points (line_by sweep_line) (line_by judge_line) reads small opens w
      (outputs-by text (runs (runs_shown h xs fault_free)) (decided-is ∙ rw (p, q)) (runs_line (suc points) ∷ run_lines (line_by sweep_line) (suc points) 0)
      (runs_line (suc points) ∷ run_lines (line_by judge_line) (suc points) 0) (text-by sweep_line) (text-by judge_line))

-- ---- every text

by-script : (text : List ℕ) (k : Columns) → Sheet k → (s : Script) → script_of text ≡ s → Printed text k
unfolding read_into
by-script text k z (refused number line) e = unread number line (rw e) (outputs-by text (not_swept number line) (swept-script text ∙ ap decided_script e) _ _ refl refl)
by-script text k z (script h xs) e = by-ways text h xs e k z (run_by h xs Nothing).failed (meets26 h xs) refl refl

-- a script that is refused, a sweep that is refused by 24 or 26, or the count of runs and the line of each: there is no other way
pub printed : Claim
printed text k z = by-script text k z (script_of text) refl
