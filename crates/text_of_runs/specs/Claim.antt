-- Document 01, "Scripts and the two programs": what `sweep` and `judge` print, said of the functions that they call. A program reads the
-- script, opens the sweep, and at each place asks what is armed, runs the script with it and writes the run's line. What each function
-- answers is the definition that its contract cites; the text is that of document 01. Definitions only; assumes nothing.
use Rattle.std.specs.Prelude.{◌≡◌, Bool, ℕ, zero, suc, ◌≤◌, length, take, None as Absent, Ok as ListIs, Ok as Run}
use mathlib.Core.List.{List, [], ◌∷◌, flatten}
use Rattle.basics.specs.Replies.{number_in}
use Rattle.landing.specs.declared.Stop.{Stop}
use Rattle.oracle.specs.Verdict.{number_of, verified}
use Rattle.session.specs.Armed.{Armed}
use Rattle.ledger.specs.Ledger.{Entered, entered_of}
use Rattle.script.specs.declared.Head.{Head}
use Rattle.script.specs.Columns.{Read, Refused, Columns, after, read_into}
use Rattle.lines.specs.Lines.{judged_line, runs_line, refused_text}
use Rattle.history.specs.History.{suggested_written}
use Rattle.lines.specs.Answers.{put}
use Rattle.sweep_lines.specs.Answers.{sweep_put}
use Rattle.sweeps.specs.Sweep.{sweep_output, judge_output}
use Rattle.harness.specs.Opening.{Runs, NotSwept, OpenLeft, open_on}
use Rattle.armed_runs.specs.Places.{placed_at}
use Rattle.harness_runs.specs.Running.{Ended, RunLeft, ran_on}
use Rattle.text_of_runs.specs.Lent.{Sheet}
use Rattle.text_of_runs.specs.Printout.{sweep_lines, judge_lines}

-- ---- one run

-- the first rows of a ledger's columns
abbrev pub rows_to : (n : ℕ) → Entered → Entered
rows_to n e = entered_of (take n e.ids) (take n e.states) (take n e.torn)

-- what `run_one` left of a run, and what the line functions make of it
pub record RunPrinted (place : ℕ) (armed : Armed) (ran : RunLeft) (sweep judge : List ℕ) : Type 0 where
  pub stop : Stop
  pub operations : ℕ
  pub count : ℕ
  pub failed : Bool
  pub rows : Entered
  -- the run ended: it is never refused; its ledger is the first `count` rows of the columns
  pub ended : ran.reply ≡ Ended stop operations count failed
  pub few-entries : count ≤ 512
  pub rows_are : rows ≡ rows_to count ran.entries
  -- `sweep_line` on those rows writes the run's line of `sweep`, unless it does not fit
  pub swept : (at : ℕ) (out : List ℕ) → sweep_put place armed stop operations rows.ids rows.states rows.torn at out ≡ put 0 sweep at out
  -- `suggested` on those rows leaves a history in a column of 512
  pub history : List ℕ
  pub few-suggested : length history ≤ 512
  pub suggests : (column : List ℕ) → length column ≡ 512
      → ((suggested_written rows.ids rows.states rows.torn column).answer ≡ ListIs (length history))
      × (take (length history) (suggested_written rows.ids rows.states rows.torn column).column ≡ history)
  -- `verify_oracle` on those rows and that history, with nothing dispatched and no bank count, gives the run's line of `judge`
  pub judged : judged_line place (number_in number_of (verified rows.ids rows.states rows.torn history [] Absent)) history ≡ judge

-- the run at a place: `point_at` on the fault-free run's operations says what is armed, and the run with it is printed so
pub record PlacePrinted (h : Head) (rows : ℕ) (k : Columns) (o : OpenLeft) (operations place : ℕ) (sweep judge : List ℕ) : Type 0 where
  pub armed : Armed
  -- no line is longer than 11,915 bytes, so that a buffer with as much room refuses none
  pub sweep-short : length sweep ≤ 11915
  pub judge-short : length judge ≤ 11915
  pub placed : placed_at place h.geometry (take operations o.kinds) (take operations o.offsets) (take operations o.lens) ≡ Run armed
  pub prints : RunPrinted place armed (ran_on h armed rows k) sweep judge

-- ---- the whole text

-- the lines of so many runs, from a place on
unfoldable pub run_lines : (line : (place : ℕ) → List ℕ) → (runs place : ℕ) → List (List ℕ)
run_lines line zero place = []
run_lines line (suc n) place = line place ∷ run_lines line n (suc place)

-- a sweep that was opened: how many operations and crash points there are, neither too many, and the run at each place
pub record SweepPrinted (h : Head) (rows : ℕ) (k : Columns) (o : OpenLeft) (operations points : ℕ) (sweep judge : ℕ → List ℕ) : Type 0 where
  pub opened : o.reply ≡ Runs operations points
  pub few-operations : operations ≤ 1024
  pub few-points : points ≤ 50337794
  pub at_places : (place : ℕ) → place ≤ points → PlacePrinted h rows k o operations place (sweep place) (judge place)

-- what the two programs print: these lines, one after the other
pub record Outputs (text : List ℕ) (sweep judge : List (List ℕ)) : Type 0 where
  pub sweep-lines : sweep_lines text ≡ sweep
  pub sweep-is : sweep_output text ≡ flatten sweep
  pub judge-lines : judge_lines text ≡ judge
  pub judge-is : judge_output text ≡ flatten judge

-- a program's three ways, for a script's bytes and the columns that it is read into
pub data Printed (text : List ℕ) (k : Columns) : Type 0 where
  -- `read_script` refuses: its number and line are printed
  unread : (number line : ℕ) → read_into text k ≡ after (Refused number line) k → Outputs text (refused_text number line ∷ []) (refused_text number line ∷ []) → Printed text k
  -- `open_sweep` refuses: its number and 0
  unswept : (h : Head) (rows bytes : ℕ) (sheet : Columns) (o : OpenLeft) (number : ℕ) → read_into text k ≡ after (Read h rows bytes) sheet
      → h.geometry.capacity ≤ 16384 → open_on h rows sheet ≡ o → o.reply ≡ NotSwept number → Outputs text (refused_text number 0 ∷ []) (refused_text number 0 ∷ []) → Printed text k
  -- the count of runs, and a line for each place
  swept : (h : Head) (rows bytes : ℕ) (sheet : Columns) (o : OpenLeft) (operations points : ℕ) (sweep judge : ℕ → List ℕ)
      → read_into text k ≡ after (Read h rows bytes) sheet → h.geometry.capacity ≤ 16384 → open_on h rows sheet ≡ o → SweepPrinted h rows sheet o operations points sweep judge
      → Outputs text (runs_line (suc points) ∷ run_lines sweep (suc points) 0) (runs_line (suc points) ∷ run_lines judge (suc points) 0) → Printed text k

-- The claim: whatever the text, and whatever the columns of 32,768 rows hold that it is read into.
abbrev pub Claim : Type 0
Claim = (text : List ℕ) (k : Columns) → Sheet k → Printed text k
