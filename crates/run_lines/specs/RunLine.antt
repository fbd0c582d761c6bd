-- Document 01, "Scripts and the two programs": the line of the run at a place, from a script's rows and the operations that its fault-free
-- run recorded. Definitions only; assumes nothing.
use Rattle.std.specs.Prelude.{Bool, cond, List, [], ◌∷◌, None as Absent, Ok as Run, Err as NoRun, Err as NoLine, ℕ, length, leb}
use Rattle.basics.specs.Tests.{unless, first_of}
use Rattle.landing.specs.declared.Stop.{Stop}
use Rattle.model.specs.Ledger.{Entry}
use Rattle.model.specs.Columns.{ledger_of, refused}
use Rattle.basics.specs.Replies.{number_in}
use Rattle.oracle.specs.Verdict.{number_of, verdict}
use Rattle.session.specs.Armed.{Armed}
use Rattle.ledger.specs.Ledger.{Entered}
use Rattle.script.specs.declared.Head.{Head}
use Rattle.script.specs.Columns.{Columns}
use Rattle.lines.specs.Answers.{Line, Put, put}
use Rattle.history.specs.History.{suggested}
use Rattle.lines.specs.Lines.{judged_line}
use Rattle.sweep_lines.specs.Answers.{sweep_put}
use Rattle.armed_runs.specs.Places.{Placed, placed_at}
use Rattle.harness_runs.specs.Running.{Ran, Ended, NotRun, RunLeft, ran_on}
use Rattle.text_of_runs.specs.Claim.{rows_to}

-- ---- the line of a ledger that three columns hold

-- "place, verdict and the suggested history"; "It passes nothing dispatched and no bank count."
abbrev pub judged_of : (place : ℕ) → List Entry → List ℕ
judged_of place l = judged_line place (number_in number_of (verdict l (suggested l) [] Absent)) (suggested l)

-- 12 for columns that hold no ledger; 13 for a history of more than 512 ids, for which there is no room
abbrev pub history_test : (ids states torn : List ℕ) → ℕ
history_test is ss ts = first_of (refused is ss ts ∷ unless (leb (length (suggested (ledger_of is ss ts))) 512) 13 ∷ [])

-- its line of `judge`
unfoldable pub judge_put : (place : ℕ) → (ids states torn : List ℕ) → (at : ℕ) → (out : List ℕ) → Put
judge_put place is ss ts at out = put (history_test is ss ts) (judged_of place (ledger_of is ss ts)) at out

-- its line, judged or swept
unfoldable pub line_put : (judged : Bool) → (place : ℕ) → Armed → Stop → (operations : ℕ) → Entered → (at : ℕ) → (out : List ℕ) → Put
line_put judged place a s n e at out =
    cond judged (judge_put place e.ids e.states e.torn at out) (sweep_put place a s n e.ids e.states e.torn at out)

-- ---- the run and its line

-- the reply, and the buffer then
abbrev pub run_put : Line → (out : List ℕ) → Put
run_put r out = record { reply = r; out = out }

-- what of a run its line is made of: how it ended, and the ledger's columns
pub record RunEnd : Type 0 where
  pub reply : Ran
  pub entries : Entered

abbrev pub run_end : Ran → Entered → RunEnd
run_end r e = record { reply = r; entries = e }

abbrev pub end_of : RunLeft → RunEnd
end_of ran = run_end ran.reply ran.entries

-- its line, or the number that refuses the run
abbrev pub line_ended : (judged : Bool) → (place : ℕ) → Armed → Ran → Entered → (at : ℕ) → (out : List ℕ) → Put
line_ended judged place a (Ended s n count failed) e at out = line_put judged place a s n (rows_to count e) at out
line_ended judged place a (NotRun number) e at out = run_put (NoLine number) out

unfoldable pub armed_put : (judged : Bool) → (place : ℕ) → Armed → Head → (rows : ℕ) → Columns → (at : ℕ) → (out : List ℕ) → Put
armed_put judged place a h rows k at out = line_ended judged place a (ran_on h a rows k).reply (ran_on h a rows k).entries at out

-- what is armed at the place, and the line of the run with it; a place that has no run is refused
abbrev pub line_placed : (judged : Bool) → (place : ℕ) → Placed → Head → (rows : ℕ) → Columns → (at : ℕ) → (out : List ℕ) → Put
line_placed judged place (Run a) h rows k at out = armed_put judged place a h rows k at out
line_placed judged place (NoRun number) h rows k at out = run_put (NoLine number) out

unfoldable pub run_line_call : (judged : Bool) → (place : ℕ) → Head → (rows : ℕ) → Columns → (kinds offsets lens : List ℕ) → (at : ℕ) → (out : List ℕ) → Put
run_line_call judged place h rows k kinds offsets lens at out = line_placed judged place (placed_at place h.geometry kinds offsets lens) h rows k at out
