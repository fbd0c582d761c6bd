-- `device_calls::barrier` meets its contract: the geometry, then the media's length. Assumes nothing.
use lib.ListN.{length}
use Rattle.std.proofs.Common.{rules}
use Rattle.storage.specs.Nonzero.{error-nonzero}
use Rattle.device_calls.specs.Calls.{media_test, barrier_refusal}
use Rattle.device_calls.proofs.Replies.{first-refuses, second-answers}
use Rattle.device_calls.proofs.barrier.Goals as goal

pub returns-in_err-check : goal.returns-in_err-check
unfolding barrier_refusal
returns-in_err-check c =
    let t = first-refuses _ _ (media_test c.args.geometry (length c.args.media.now)) c.in_err-check.ensures (error-nonzero _) in
    search rules

pub returns : goal.returns
unfolding barrier_refusal
returns c = second-answers _ _ _ c.in_ok-check.ensures c.check_media.ensures
