-- `device_calls::erase` meets its contract: refused, the media are as they were; accepted, they are what `apply_erase` left. Assumes nothing.
use mathlib.Core.Path.{ap}
use lib.ListN.{length}
use Rattle.std.proofs.Common.{rules}
use Rattle.storage.specs.Nonzero.{error-nonzero}
use Rattle.device.specs.Media.{Applied, erased}
use Rattle.device_calls.specs.Nonzero.{fault-nonzero}
use Rattle.device_calls.specs.Calls.{media_test, erase_refusal, erase_call}
use Rattle.device_calls.proofs.Replies.{first-refuses, second-answers, refused-call, accepted-call}
use Rattle.device_calls.proofs.erase.Goals as goal

pub returns-in_err-validate_erase : goal.returns-in_err-validate_erase
unfolding erase_refusal erase_call
returns-in_err-validate_erase c =
    let start = c.args in
    let media = start.media.now in
    let n = first-refuses _ _ (media_test start.geometry (length media)) c.in_err-validate_erase.ensures (error-nonzero _) in
    let t = refused-call _ _ n media (erased media start.offset start.len) (error-nonzero _) in
    search rules

pub returns-in_err-check_media : goal.returns-in_err-check_media
unfolding erase_refusal erase_call
returns-in_err-check_media c =
    let start = c.args in
    let media = start.media.now in
    let n = second-answers _ _ _ c.in_ok-validate_erase.ensures c.in_err-check_media.ensures in
    let t = refused-call _ _ n media (erased media start.offset start.len) (fault-nonzero _) in
    search rules

pub returns : goal.returns
unfolding erase_refusal erase_call
returns c =
    accepted-call _ (second-answers _ _ _ c.in_ok-validate_erase.ensures c.in_ok-check_media.ensures) _ _ _ (ap (λ (a : Applied). a.media) c.apply_erase.ensures)
