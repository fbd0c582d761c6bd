-- Demand 3 on the lines that `sweep` and `judge` print.
--     opened-fresh                  the session that a script's run starts with is fresh
--     run_is                        the session that it leaves is that of the calls that the writer reaches
--     run-plain, runs-plain         what follows from demand 3
--     points-plain, decided-plain   the crash points, and the sweep
--     printed                       the page
-- Assumes nothing.
use mathlib.Core.Path.{◌≡◌, refl, sym, ap, ◌∙◌, subst}
use mathlib.Core.Bool.{true, false, not, cond, and-false, true≢false}
use mathlib.Core.List.{List, [], ◌∷◌, map}
use Prim.Native.Nat.{ℕ, suc, ◌<◌}
use lib.ListN.{length-replicate}
use borrow.Author.Tests.{eq-eqb}
use Rattle.basics.specs.Tests.{refuse_if, first_of}
use Rattle.storage.specs.Geometry.{geometry_test}
use Rattle.device.specs.Media.{ff, new_media}
use Rattle.inject.specs.declared.Injection.{Injection}
use Rattle.inject.specs.Points.{injections_of}
use Rattle.model.specs.Ledger.{acknowledged}
use Rattle.basics.specs.Replies.{number_in}
use Rattle.oracle.specs.Verdict.{Verdict, number_of}
use Rattle.oracle_legal.specs.Legal.{Holds}
use Rattle.session.specs.declared.Told.{Told}
use Rattle.session.specs.Armed.{Armed}
use Rattle.std.specs.Prelude.{None as Nothing, Some as At}
use Rattle.session.specs.Tests.{size_test, start_number}
use Rattle.plain.specs.Plain
use Rattle.plain.specs.Plain.{Run, unrun, plain}
use Rattle.plain.specs.Ledger.{records, begun, ledger}
use Rattle.plain.specs.Claims.{CutOnce, AllInOrder, Claims}
use Rattle.plain.proofs.Theorems.{claims}
use Rattle.plain.proofs.Sanity.{kept-ids}
use Rattle.threaded.specs.Threaded.{Session, Fresh, threaded}
use Rattle.threaded.specs.Demand3.{Demand3}
use Rattle.threaded.proofs.Alike.{Alike}
use Rattle.threaded.proofs.Same.{all_alike, fresh-alike}
use Rattle.threaded.proofs.Demand.{demand-3}
use Rattle.script.specs.declared.Head.{Head}
use Rattle.script.specs.Calls.{Call, begin, end, mark, program, erase, barrier}
use Rattle.id_columns.specs.Ids.{Distinct}
use Rattle.history.specs.History.{suggested}
use Rattle.lines.specs.Lines.{Shown, judged_line, judge_line, sweep_text, judge_text}
use Rattle.steps.specs.Writer.{Wrote}
use Rattle.steps.specs.Calls.{no_range, plain_calls}
use Rattle.steps.proofs.Lines.{lines_same}
use Rattle.sweeps.specs.Sweep.{told_by, opened_by, run_by, shown_by, points_of, runs, not_swept, swept_of, printed_by}
use Rattle.sweeps.specs.Decided.{range_behind, meets26, run_shown, decided_by, decided_script}
use Rattle.sweeps.proofs.Decided.{swept-script}
use Rattle.text_of_runs.proofs.Sheets.{head-passes}
use Rattle.plain_printed.specs.Reached.{reached, failed_by, all_lines, plain_run, points_for, plain_swept}
use Rattle.plain_printed.specs.Printed.{RunIsPlain, RunsArePlain, Printed}
use Rattle.plain_printed.proofs.Reached.{wrote-plain}
use Rattle.plain_printed.proofs.Stopped.{writer-whole, writer-acknowledges}
use Rattle.plain_printed.proofs.Suggested.{suggested-accepted}
use Rattle.plain_printed.proofs.Points.{ops-same}

-- ---- the session that a run starts with

opened-fresh : (h : Head) (a : Armed) → geometry_test h.geometry ≡ 0 → Fresh (told_by h a) (opened_by h)
unfolding start_number size_test refuse_if first_of
opened-fresh h a e =
    let c : ℕ = h.geometry.capacity in
    record { not-refused = rw (e, length-replicate c ff, length-replicate {A = ℕ} c 0, eq-eqb c c refl); before-any = refl }

-- ---- no range is behind where there is none

none-behind : (n : ℕ) (xs : List Call) → no_range xs ≡ true → range_behind n xs ≡ false
unfolding no_range range_behind
none-behind n [] e = refl
none-behind n (begin id ∷ xs) e = none-behind n xs e
none-behind n (end ∷ xs) e = none-behind n xs e
none-behind n (mark id from to ∷ xs) e = absurd (true≢false (sym e))
none-behind n (program offset bytes ∷ xs) e = none-behind (suc n) xs e
none-behind n (erase offset count ∷ xs) e = none-behind (suc n) xs e
none-behind n (barrier ∷ xs) e = none-behind (suc n) xs e

never-26 : (h : Head) (xs : List Call) → no_range xs ≡ true → meets26 h xs ≡ false
never-26 h xs e = rw (none-behind 0 xs e) (and-false (not h.carries_on))

module _ (h : Head) (xs : List Call) (passes : geometry_test h.geometry ≡ 0) (none : no_range xs ≡ true) where
  abbrev s : Session
  s = opened_by h

  abbrev cs : List Plain.Call
  cs = plain_calls xs

  -- ---- one run

  module _ (a : Armed) where
    abbrev t : Told
    t = told_by h a

    -- the calls that the writer reaches
    abbrev some : List Plain.Call
    some = reached h.carries_on (all_lines h a xs).answers cs

    started : Fresh t s
    started = opened-fresh h a passes

    same-answers : (threaded t s cs).answers ≡ (all_lines h a xs).answers
    same-answers = (demand-3 t s cs started).same.answers

    run_is : run_by h xs a ≡ record { session = (threaded t s some).session; failed = failed_by h.carries_on (all_lines h a xs).answers }
    unfolding run_by
    run_is =
        wrote-plain t h.carries_on s xs cs (lines_same xs none)
        ∙ λ i. record {
          session = (threaded t s (reached h.carries_on (same-answers i) cs)).session;
          failed = failed_by h.carries_on (same-answers i);
        }

    run-session : (run_by h xs a).session ≡ (threaded t s some).session
    run-session = ap (λ (w : Wrote). w.session) run_is

    all : Demand3 t s some
    all = demand-3 t s some started

    accepted : CutOnce a → Distinct (begun (plain_run h a xs).marks) → (place : ℕ)
        → judge_line place (run_shown h xs a) ≡ judged_line place 0 (suggested (run_shown h xs a).ledger)
    unfolding judge_line
    accepted o d place =
        rw run-session
        (ap (λ (v : Verdict). judged_line place (number_in number_of v) (suggested (shown_by h a (threaded t s some).session).ledger))
        (suggested-accepted _ (all.only-the-last o) (all.accepts-exactly o d)))

    run-plain : RunIsPlain h xs a
    run-plain = record {
      shown = ap (shown_by h a) run-session ∙ λ i. record {
        injection = a;
        stop = all.same.stop i;
        operations = all.same.operations i;
        ledger = all.same.entries i;
      };
      media = ap (λ (v : Session). v.media) run-session ∙ all.same.media;
      failed = ap (λ (w : Wrote). w.failed) run_is;
      only-the-last = λ o. rw run-session (all.only-the-last o);
      accepts-exactly = λ o d. rw run-session (all.accepts-exactly o d);
      prints-0 = accepted;
    }

  -- ---- later cuts keep, whether or not the writer stops at its first error

  module _ (unfailed : (run_by h xs Nothing).failed ≡ false) where
    abbrev media : List ℕ
    media = new_media h.geometry.capacity

    no-error : failed_by h.carries_on (all_lines h Nothing xs).answers ≡ false
    no-error = sym (run-plain Nothing).failed ∙ unfailed

    -- the fault-free writer reaches every line
    uncut-whole : plain_run h Nothing xs ≡ all_lines h Nothing xs
    uncut-whole = ap (plain (told_by h Nothing) media) (writer-whole media cs (told_by h Nothing) h.carries_on no-error)

    acknowledges-all : (j : Injection) → CutOnce (At j) → acknowledged (run_shown h xs (At j)).ledger ≡ acknowledged (ledger (all_lines h (At j) xs))
    acknowledges-all j o =
        ap (λ (v : Shown). acknowledged v.ledger) (run-plain (At j)).shown
        ∙ writer-acknowledges media cs (told_by h Nothing) j o h.carries_on no-error

    whole : Claims (told_by h Nothing) media cs
    whole = claims (told_by h Nothing) media cs

    module _ (order : AllInOrder (records (plain_run h Nothing xs))) where
      in-order : AllInOrder (records (all_lines h Nothing xs))
      in-order = subst (λ (r : Run). AllInOrder (records r)) uncut-whole order

      later-keep : (j k : Injection) → CutOnce (At j) → CutOnce (At k) → j.op < k.op
          → Holds (acknowledged (run_shown h xs (At k)).ledger) (acknowledged (run_shown h xs (At j)).ledger)
      later-keep j k o p l = rw (acknowledges-all j o, acknowledges-all k p) (kept-ids _ _ (whole.later-cuts-keep j k o p l in-order))

      uncut-keep : (j : Injection) → CutOnce (At j) → Holds (acknowledged (run_shown h xs Nothing).ledger) (acknowledged (run_shown h xs (At j)).ledger)
      uncut-keep j o =
          rw (acknowledges-all j o, ap (λ (v : Shown). acknowledged v.ledger) (run-plain Nothing).shown ∙ ap (λ (r : Run). acknowledged (ledger r)) uncut-whole)
          (kept-ids _ _ (whole.uncut-keeps j o in-order))

  runs-plain : RunsArePlain h xs
  runs-plain = record { each = run-plain; later-cuts-keep = later-keep; uncut-keeps = uncut-keep }

  -- ---- the sweep

  -- the crash points are those of the plain run's operations
  points-plain : points_of h (run_by h xs Nothing).session ≡ points_for h (plain_run h Nothing xs)
  unfolding points_of plain
  points-plain =
      let y : Alike (t Nothing) (threaded (t Nothing) s (some Nothing)).session (plain_run h Nothing xs) =
      (all_alike (t Nothing) s (unrun s.media) (some Nothing) (fresh-alike (t Nothing) s (started Nothing))).0 in
      rw (run-session Nothing, y.kinds-are, y.offsets_are, y.lens-are) (ap (injections_of h.geometry) (ops-same (plain_run h Nothing xs).ops))

  decided-plain : decided_by h xs (run_by h xs Nothing) ≡ plain_swept h xs
  decided-plain =
      rw ((run-plain Nothing).failed, never-26 h xs none)
      (λ i. cond (failed_by h.carries_on (all_lines h Nothing xs).answers) (not_swept 24 0)
      (runs ((run-plain Nothing).shown i ∷ map (λ (j : Injection). (run-plain (At j)).shown i) (points-plain i))))

pub printed : Printed
printed text h xs e none =
    let passes = head-passes text h xs e in
    let swept : swept_of text ≡ plain_swept h xs = swept-script text ∙ ap decided_script e ∙ decided-plain h xs passes none in
    record { sweep-is = ap (printed_by sweep_text) swept; judge-is = ap (printed_by judge_text) swept; are-plain = runs-plain h xs passes none }
