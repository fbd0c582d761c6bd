-- `session_erase::erase` meets its contract: refused, or landed and recorded. Assumes nothing.
use mathlib.Core.Path.{sym, ◌∙◌}
use native.Mathlib.Omega.{arith}
use Rattle.storage.proofs.Nesting.{Legal}
use Rattle.session.proofs.Answers.{is-refused, is-passed, byte-flag, answered-flag}
use Rattle.session_erase.proofs.Calls.{less, plan-is, plan-le, erase-legal, erase-refused, erase-taken}
use Rattle.session_erase.proofs.erase.Goals as goal
use Rattle.session_erase.proofs.erase.Goals.{Else-is_err}

-- the span of an erase that is taken
span : (c : goal.Else-is_err) → Legal c.args.told.geometry c.args.told.geometry.erase_size c.args.offset c.args.len
span c = erase-legal _ _ _ _ _ _ _ (sym c.erase_refusal-answer.ensures ∙ is-passed _ _ c.is_err.ensures.value c.if-is_err.false)

pub returns-then-is_err-clause-left : goal.returns-then-is_err-clause-left
returns-then-is_err-clause-left c = erase-refused _ _ _ _ _ _ _ _ c.erase_refusal-answer.ensures (is-refused _ _ c.is_err.ensures.value c.if-is_err.true)

pub overflow_add-offset : goal.overflow_add-offset
overflow_add-offset c =
    omega (arith, (span (goal.at.overflow_add-offset c).Else-is_err).fits, less c.args.told c.args.counters c.args.offset c.args.len c.armed_for-armed.result c.lands-landed.result c.lands-landed.ensures)

pub land_erase-touched-requires : goal.land_erase-touched-requires
land_erase-touched-requires c = (plan-le c.args.told _ _ _ _ _ c.lands-landed.ensures _ c.armed_for-armed.ensures c.planned-plan.ensures, (span (goal.at.land_erase-touched-requires c).Else-is_err).fits)

pub returns-clause-left : goal.returns-clause-left
returns-clause-left c =
    erase-taken _ _ _ _ _ _ _ _
    c.erase_refusal-answer.ensures
    (is-passed _ _ c.is_err.ensures.value c.if-is_err.false)
    _ _ _ _ _ _ _
    (plan-is _ _ _ _ _ _ c.lands-landed.ensures _ c.armed_for-armed.ensures c.planned-plan.ensures)
    c.land_erase-touched.ensures
    (byte-flag _ _ c.from.ensures)
    (answered-flag _ _ _ c.is_ok.ensures.value c.from-2.ensures)
    c.record.ensures.left
