-- `session_marks::mark_operations` meets its contract: refused, or two marks stored. Assumes nothing.
use mathlib.Core.Path.{sym, ◌∙◌}
use Prim.Native.Nat.{◌+◌, ◌≤◌}
use native.Mathlib.Omega.{arith}
use Rattle.session.specs.Log.{Marks}
use Rattle.session.specs.Lent.{marks_in}
use Rattle.session.proofs.Answers.{is-refused, is-passed}
use Rattle.session_marks.proofs.Rows.{marks-fit, noted-refused, noted-taken, marked-two}
use Rattle.session_marks.proofs.mark_operations.Goals as goal
use Rattle.session_marks.proofs.mark_operations.Goals.{Start, Else-is_err}

-- the marks as they were lent
abbrev lent : goal.Start → Marks
lent c = marks_in c.args.marks.now

-- two fit
fit : (c : goal.Else-is_err) → c.args.counters.marks + 2 ≤ 512
fit c = marks-fit _ _ _ _ _ (sym c.mark_refusal-answer.ensures ∙ is-passed _ _ c.is_err.ensures.value c.if-is_err.false)

pub returns-then-is_err-clause-left : goal.returns-then-is_err-clause-left
returns-then-is_err-clause-left c = noted-refused _ _ _ _ c.mark_refusal-answer.ensures _ (is-refused _ _ c.is_err.ensures.value c.if-is_err.true)

pub noted_by-requires : goal.noted_by-requires
noted_by-requires c = fit (goal.at.noted_by-requires c).Else-is_err

pub overflow_add-first : goal.overflow_add-first
overflow_add-first c = omega (arith, fit (goal.at.overflow_add-first c).Else-is_err)

pub returns-clause-left : goal.returns-clause-left
returns-clause-left c =
    noted-taken _ _ (lent (goal.at.returns-clause-left c).Start) _ c.mark_refusal-answer.ensures _ (is-passed _ _ c.is_err.ensures.value c.if-is_err.false) _ _
    c.noted_by.ensures
    (marked-two (lent (goal.at.returns-clause-left c).Start) _ _ _ _ _ c.mark.ensures.left c.mark-2.ensures.left)
