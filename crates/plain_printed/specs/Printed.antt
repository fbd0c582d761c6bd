-- Document 01, "Demand 3", said of the lines that `sweep` and `judge` print, for every script without `M`: the plain run knows no call that
-- marks a range. `Reached` has the plain run of a script's lines; `sweeps` specs/Sweep and specs/Decided have its run through a session,
-- and the text. The proof is `printed` in proofs/Whole.antt. Definitions only; assumes nothing.
use Rattle.std.specs.Prelude.{◌≡◌, true, false, List, ℕ, ◌<◌, None as Nothing, Some as At}
use Rattle.inject.specs.declared.Injection.{Injection}
use Rattle.id_columns.specs.Ids.{Distinct}
use Rattle.model.specs.Ledger.{acknowledged}
use Rattle.oracle_legal.specs.Legal.{Holds}
use Rattle.session.specs.Armed.{Armed}
use Rattle.plain.specs.Ledger.{begun, records}
use Rattle.plain.specs.Claims.{CutOnce, OnlyTheLast, AcceptsExactly, AllInOrder}
use Rattle.script.specs.declared.Head.{Head}
use Rattle.script.specs.Calls.{Call}
use Rattle.script.specs.Script.{script, script_of}
use Rattle.lines.specs.Lines.{judged_line, judge_line, sweep_text, judge_text}
use Rattle.history.specs.History.{suggested}
use Rattle.steps.specs.Calls.{no_range}
use Rattle.sweeps.specs.Sweep.{run_by, printed_by, sweep_output, judge_output}
use Rattle.sweeps.specs.Decided.{run_shown}
use Rattle.plain_printed.specs.Reached.{failed_by, all_lines, plain_run, shown_plain, plain_swept}

-- one run, whatever is armed
pub record RunIsPlain (h : Head) (xs : List Call) (a : Armed) : Type 0 where
  -- 1. What is printed of it, and the media that it leaves, are the plain run's; and the writer fails exactly if it stops at errors and some
  -- line answers one. Of failures too.
  pub shown : run_shown h xs a ≡ shown_plain a (plain_run h a xs)
  pub media : (run_by h xs a).session.media ≡ (plain_run h a xs).media
  pub failed : (run_by h xs a).failed ≡ failed_by h.carries_on (all_lines h a xs).answers
  -- 2. Only the last committed record can be torn.
  pub only-the-last : CutOnce a → OnlyTheLast (run_shown h xs a).ledger
  -- 3. With the taken begins' ids all different, the accepted histories are those of demand 3; there is one.
  pub accepts-exactly : CutOnce a → Distinct (begun (plain_run h a xs).marks) → AcceptsExactly (run_shown h xs a).ledger
  -- So `judge` prints 0 for it, and the history that it suggests.
  pub prints-0 : CutOnce a → Distinct (begun (plain_run h a xs).marks) → (place : ℕ)
      → judge_line place (run_shown h xs a) ≡ judged_line place 0 (suggested (run_shown h xs a).ledger)

-- all runs of a script
pub record RunsArePlain (h : Head) (xs : List Call) : Type 0 where
  pub each : (a : Armed) → RunIsPlain h xs a
  -- 4. If the fault-free writer does not fail and no record of its run has a program or erase after a barrier of its own, who is acknowledged
  -- in the run cut at one operation is acknowledged in every run cut at a later one,
  pub later-cuts-keep : (run_by h xs Nothing).failed ≡ false → AllInOrder (records (plain_run h Nothing xs))
      → (j k : Injection) → CutOnce (At j) → CutOnce (At k) → j.op < k.op
      → Holds (acknowledged (run_shown h xs (At k)).ledger) (acknowledged (run_shown h xs (At j)).ledger)
  -- and in the uncut run. A writer that stops at its first error makes another list of calls in each run.
  pub uncut-keeps : (run_by h xs Nothing).failed ≡ false → AllInOrder (records (plain_run h Nothing xs))
      → (j : Injection) → CutOnce (At j)
      → Holds (acknowledged (run_shown h xs Nothing).ledger) (acknowledged (run_shown h xs (At j)).ledger)

-- a script's bytes: the whole text of the two programs is the text of plain runs, crash points and 24 included
pub record PrintsPlain (text : List ℕ) (h : Head) (xs : List Call) : Type 0 where
  pub sweep-is : sweep_output text ≡ printed_by sweep_text (plain_swept h xs)
  pub judge-is : judge_output text ≡ printed_by judge_text (plain_swept h xs)
  pub are-plain : RunsArePlain h xs

-- every text that is read as a script without a range
abbrev pub Printed : Type 0
Printed = (text : List ℕ) (h : Head) (xs : List Call) → script_of text ≡ script h xs → no_range xs ≡ true → PrintsPlain text h xs
