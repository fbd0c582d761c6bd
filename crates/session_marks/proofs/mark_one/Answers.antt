-- `session_marks::mark_one` meets its contract: refused, or one mark stored. Assumes nothing.
use mathlib.Core.Path.{sym, ◌∙◌}
use Rattle.session.specs.Log.{Marks}
use Rattle.session.specs.Lent.{marks_in}
use Rattle.session.proofs.Answers.{is-refused, is-passed}
use Rattle.session_marks.proofs.Rows.{marks-fit, noted-refused, noted-taken, marked-one}
use Rattle.session_marks.proofs.mark_one.Goals as goal
use Rattle.session_marks.proofs.mark_one.Goals.{Start}

-- the marks as they were lent
abbrev lent : goal.Start → Marks
lent c = marks_in c.args.marks.now

pub returns-then-is_err-clause-left : goal.returns-then-is_err-clause-left
returns-then-is_err-clause-left c = noted-refused _ _ _ _ c.mark_refusal-answer.ensures _ (is-refused _ _ c.is_err.ensures.value c.if-is_err.true)

pub noted_by-requires : goal.noted_by-requires
noted_by-requires c = marks-fit _ _ _ _ _ (sym c.mark_refusal-answer.ensures ∙ is-passed _ _ c.is_err.ensures.value c.if-is_err.false)

pub returns-clause-left : goal.returns-clause-left
returns-clause-left c =
    noted-taken _ _ (lent (goal.at.returns-clause-left c).Start) _ c.mark_refusal-answer.ensures _ (is-passed _ _ c.is_err.ensures.value c.if-is_err.false) _ _
    c.noted_by.ensures
    (marked-one (lent (goal.at.returns-clause-left c).Start) _ _ _ c.mark.ensures.left)
