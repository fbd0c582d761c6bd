-- `session_calls::start` meets its contract: refused, or the media filled. Assumes nothing.
use lib.ListN.{length}
use mathlib.Core.Path.{refl}
use Rattle.std.proofs.Common.{rules}
use Rattle.refusals.specs.Nonzero.{refusal-nonzero}
use Rattle.session.specs.Lent.{log_seen, marks_seen}
use Rattle.session_calls.proofs.Calls.{start-refused, start-taken}
use Rattle.session_calls.proofs.start.Goals as goal

pub returns-in_err-start_refusal : goal.returns-in_err-start_refusal
returns-in_err-start_refusal c =
    let t = start-refused c.args.told c.args.media.now (length c.args.copy.now) (log_seen c.args.log.now) (marks_seen c.args.marks.now) _
    c.in_err-start_refusal.ensures (refusal-nonzero _) in
    search rules

pub returns : goal.returns
returns c = rw c.fresh.ensures (start-taken _ _ _ _ _ _ c.in_ok-start_refusal.ensures refl _ c.fill_erased.ensures)
