-- `session_program::program` meets its contract: refused, or landed and recorded. Assumes nothing.
use mathlib.Core.Path.{sym, ◌∙◌}
use native.Mathlib.Omega.{arith}
use lib.ListN.{length}
use Rattle.session.proofs.Answers.{is-refused, is-passed, byte-flag, answered-flag}
use Rattle.session_program.proofs.Refusals.{Ready, ready}
use Rattle.session_program.proofs.Landings.{less, plan-is, plan-le}
use Rattle.session_program.proofs.Calls.{program-refused, program-taken}
use Rattle.session_program.proofs.program.Goals as goal
use Rattle.session_program.proofs.program.Goals.{Else-is_err}

-- what a program that is taken knows
known : (c : goal.Else-is_err) → Ready c.args.told c.args.offset c.args.bytes.now c.args.media.now (length c.args.copy.now)
known c = ready _ _ _ _ _ _ _ (sym c.program_refusal-answer.ensures ∙ is-passed _ _ c.is_err.ensures.value c.if-is_err.false)

pub returns-then-is_err-clause-left : goal.returns-then-is_err-clause-left
returns-then-is_err-clause-left c = program-refused _ _ _ _ _ _ _ _ c.program_refusal-answer.ensures (is-refused _ _ c.is_err.ensures.value c.if-is_err.true)

pub overflow_cast-len : goal.overflow_cast-len
overflow_cast-len c = record { fits = (known (goal.at.overflow_cast-len c).Else-is_err).few }

pub overflow_add-offset : goal.overflow_add-offset
overflow_add-offset c =
    let r = known (goal.at.overflow_add-offset c).Else-is_err in
    omega (arith, r.span.fits, less c.args.told c.args.counters c.args.offset (length c.args.bytes.now) c.armed_for-armed.result c.lands-landed.result c.lands-landed.ensures)

pub land_program-touched-requires : goal.land_program-touched-requires
land_program-touched-requires c =
    let r = known (goal.at.land_program-touched-requires c).Else-is_err in
    (plan-le c.args.told _ _ _ _ _ c.lands-landed.ensures _ c.armed_for-armed.ensures c.planned-plan.ensures, rw r.media-whole r.span.inside, r.copy-whole ∙ sym r.media-whole, r.span.fits)

pub returns-clause-left : goal.returns-clause-left
returns-clause-left c =
    program-taken _ _ _ _ _ _ _ _
    c.program_refusal-answer.ensures
    (is-passed _ _ c.is_err.ensures.value c.if-is_err.false)
    _ _ _ _ _ _ _ _
    (plan-is _ _ _ _ _ _ c.lands-landed.ensures _ c.armed_for-armed.ensures c.planned-plan.ensures)
    c.land_program-touched.ensures
    (byte-flag _ _ c.from.ensures)
    (answered-flag _ _ _ c.is_ok.ensures.value c.from-2.ensures)
    c.digest.ensures
    c.record.ensures.left
