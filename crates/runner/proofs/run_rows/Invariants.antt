-- `runner::run_rows` meets its contract: the rows not yet run leave what all leave. Assumes nothing.
use Rattle.session.specs.Lent.{log_in, marks_in, SameLog, SameMarks}
use Rattle.steps.specs.Step.{session_of}
use Rattle.script.specs.Lent.{columns_seen}
use Rattle.runner.specs.Run.{tasks_in, ran_rows, leaves}
use Rattle.runner.proofs.Turns.{Left}
use Rattle.runner.proofs.run_rows.Given as goal

abbrev pub invariant-loop-i : goal.invariant-loop-i
invariant-loop-i l =
    Left l.told l.carries l.rows (columns_seen l.calls)
    (leaves (ran_rows l.told l.carries (session_of l.initial.counters l.initial.media l.initial.copy (log_in l.initial.log) (marks_in l.initial.marks)) (tasks_in l.rows (columns_seen l.calls))) l.initial.answers)
    l.i (session_of l.counters l.media l.copy (log_in l.log) (marks_in l.marks)) l.answers
    × SameLog l.initial.log l.log × SameMarks l.initial.marks l.marks
