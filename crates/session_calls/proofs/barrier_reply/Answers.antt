-- `session_calls::barrier_reply` meets its contract: what is armed, how it ends, the reply. Assumes nothing.
use mathlib.Core.Path.{◌≡◌}
use Rattle.std.proofs.Common.{rules}
use Rattle.session.specs.Armed.{barrier_ran}
use Rattle.session_calls.proofs.Calls.{reply-so}
use Rattle.session_calls.proofs.barrier_reply.Goals as goal

pub returns : goal.returns
returns c =
    let ran : c.map_or-ran.result ≡ barrier_ran c.armed_for-armed.result = search rules in
    reply-so _ _ _ _ _ _ c.reply_of.ensures c.ended_by.ensures ran c.armed_for-armed.ensures
