-- `device_calls::read` meets its contract: refused, the buffer is as it was; accepted, it is the part of the media. Assumes nothing.
use mathlib.Core.Path.{◌≡◌, sym, ◌∙◌}
use Prim.Native.Nat.{◌+◌, ◌≤◌}
use lib.ListN.{length}
use Rattle.std.proofs.Common.{rules}
use Rattle.basics.specs.Parts.{part}
use Rattle.basics.proofs.Parts.{part-lent}
use Rattle.storage.specs.Nonzero.{error-nonzero}
use Rattle.device_calls.specs.Nonzero.{fault-nonzero}
use Rattle.device_calls.specs.Calls.{read_refusal, read_call}
use Rattle.device_calls.proofs.Accepted.{read_known}
use Rattle.device_calls.proofs.Replies.{long-refused, span-refused, media-refused, refused-call, accepted-call}
use Rattle.device_calls.proofs.read.Goals as goal
use Rattle.device_calls.proofs.read.Goals.{In_ok-check_media}

-- an accepted read has no number, and so lies in the media
accepted : (c : goal.In_ok-check_media) → 0 ≡ read_refusal c.args.geometry (length c.args.media.now) c.args.offset (length c.args.dst.now)
unfolding read_refusal
accepted c =
    let start = c.args in
    media-refused start.geometry start.geometry.read_size (length start.media.now) start.offset (length start.dst.now) _ c.in_ok-len.ensures _
    c.in_ok-validate_read.ensures c.in_ok-check_media.ensures

fits : (c : goal.In_ok-check_media) → c.args.offset + length c.args.dst.now ≤ length c.args.media.now
fits c = (read_known _ _ _ _ (sym (accepted c))).fits

pub returns-in_err-len : goal.returns-in_err-len
unfolding read_refusal read_call
returns-in_err-len c =
    let start = c.args in
    let media = start.media.now in
    let dst = start.dst.now in
    let n = long-refused start.geometry start.geometry.read_size (length media) start.offset (length dst) _ c.in_err-len.ensures in
    let t = refused-call _ _ n dst (part media start.offset (length dst)) (error-nonzero _) in
    search rules

pub returns-in_err-validate_read : goal.returns-in_err-validate_read
unfolding read_refusal read_call
returns-in_err-validate_read c =
    let start = c.args in
    let media = start.media.now in
    let dst = start.dst.now in
    let n = span-refused start.geometry start.geometry.read_size (length media) start.offset (length dst) _ c.in_ok-len.ensures _ c.in_err-validate_read.ensures (error-nonzero _) in
    let t = refused-call _ _ n dst (part media start.offset (length dst)) (error-nonzero _) in
    search rules

pub returns-in_err-check_media : goal.returns-in_err-check_media
unfolding read_refusal read_call
returns-in_err-check_media c =
    let start = c.args in
    let media = start.media.now in
    let dst = start.dst.now in
    let n = media-refused start.geometry start.geometry.read_size (length media) start.offset (length dst) _ c.in_ok-len.ensures _ c.in_ok-validate_read.ensures c.in_err-check_media.ensures in
    let t = refused-call _ _ n dst (part media start.offset (length dst)) (fault-nonzero _) in
    search rules

pub slice_bounds-copy_cells-end : goal.slice_bounds-copy_cells-end
slice_bounds-copy_cells-end c = fits (goal.at.slice_bounds-copy_cells-end c).In_ok-check_media

pub returns : goal.returns
unfolding read_call
returns c =
    let start = c.args in
    let passed = (goal.at.returns c).In_ok-check_media in
    accepted-call _ (accepted passed) _ _ _ (c.copy_cells.ensures ∙ part-lent start.media.now start.offset (length start.dst.now) (fits passed))
