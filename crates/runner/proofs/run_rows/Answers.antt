-- `runner::run_rows` meets its contract: the rows not yet run leave what all leave. Assumes nothing.
use mathlib.Core.Path.{sym, ap, ◌∙◌}
use mathlib.Core.Bool.{Bool, not, ◌&&◌}
use Prim.Native.Nat.{ℕ}
use lib.ListN.{set}
use Rattle.std.proofs.Common.{rules}
use Rattle.session.specs.Lent.{log_in, marks_in}
use Rattle.steps.specs.Step.{session_of}
use Rattle.script.specs.Lent.{columns_seen}
use Rattle.runner.specs.Run.{tasks_in, ran_rows, leaves}
use Rattle.runner.proofs.Turns.{left-first, left-turn, left-stop, left_end, error-told}
use Rattle.runner.proofs.run_rows.Goals as goal

pub loop-i-init : goal.loop-i-init
loop-i-init c = (left-first _ _ _ _ _ _, search rules, search rules)

pub returns-then-is_err-carries-clause-left : goal.returns-then-is_err-carries-clause-left
returns-then-is_err-carries-clause-left c =
    let a = c.args in
    let l = c.loop-i in
    left-stop a.told a.carries a.rows (columns_seen a.calls.now)
    (leaves (ran_rows a.told a.carries (session_of a.fresh a.media.now a.copy.now (log_in a.log.now) (marks_in a.marks.now)) (tasks_in a.rows (columns_seen a.calls.now))) a.answers.now)
    l.i (session_of l.counters l.media l.copy (log_in l.log) (marks_in l.marks)) _ l.answers _ _ c.rows_there-there.ensures c.loop-i-test.true l.invariant.0
    _ c.row_at-row.ensures c.step-called.ensures.left (c.store.ensures ∙ ap (λ (n : ℕ). set l.answers l.i n) c.number_in.ensures)
    (ap (λ (b : Bool). b && not a.carries) (sym (c.is_err.ensures.value ∙ error-told c.step-called.result.answer)) ∙ c.if-is_err-carries.true)

pub loop-i-preserved : goal.loop-i-preserved
loop-i-preserved c =
    let a = c.args in
    let l = c.loop-i in (
      left-turn a.told a.carries a.rows (columns_seen a.calls.now)
          (leaves (ran_rows a.told a.carries (session_of a.fresh a.media.now a.copy.now (log_in a.log.now) (marks_in a.marks.now)) (tasks_in a.rows (columns_seen a.calls.now))) a.answers.now)
          l.i (session_of l.counters l.media l.copy (log_in l.log) (marks_in l.marks)) _ l.answers _ _ c.rows_there-there.ensures c.loop-i-test.true l.invariant.0
          _ c.row_at-row.ensures c.step-called.ensures.left (c.store.ensures ∙ ap (λ (n : ℕ). set l.answers l.i n) c.number_in.ensures)
          (ap (λ (b : Bool). b && not a.carries) (sym (c.is_err.ensures.value ∙ error-told c.step-called.result.answer)) ∙ c.if-is_err-carries.false),
      search rules,
      search rules,
    )

pub returns-clause-left : goal.returns-clause-left
returns-clause-left c =
    let a = c.args in
    let l = c.loop-i in
    left_end a.told a.carries a.rows (columns_seen a.calls.now)
    (leaves (ran_rows a.told a.carries (session_of a.fresh a.media.now a.copy.now (log_in a.log.now) (marks_in a.marks.now)) (tasks_in a.rows (columns_seen a.calls.now))) a.answers.now)
    l.i (session_of l.counters l.media l.copy (log_in l.log) (marks_in l.marks)) l.answers _ c.rows_there-there.ensures c.loop-i-test.false l.auto.i-end l.invariant.0
