-- `session_calls::barrier` meets its contract: refused, or replied to and recorded. Assumes nothing.
use Rattle.session.proofs.Answers.{is-refused, is-passed, answered-flag}
use Rattle.session_calls.proofs.Calls.{barrier-refused, barrier-taken}
use Rattle.session_calls.proofs.barrier.Goals as goal

pub returns-then-is_err-clause-left : goal.returns-then-is_err-clause-left
returns-then-is_err-clause-left c = barrier-refused _ _ _ _ c.barrier_refusal-answer.ensures (is-refused _ _ c.is_err.ensures.value c.if-is_err.true)

pub returns-clause-left : goal.returns-clause-left
returns-clause-left c =
    barrier-taken _ _ _ _
    c.barrier_refusal-answer.ensures
    (is-passed _ _ c.is_err.ensures.value c.if-is_err.false)
    _ _ _
    c.barrier_reply-reply.ensures
    (answered-flag _ _ _ c.is_ok.ensures.value c.from.ensures)
    c.record.ensures.left
