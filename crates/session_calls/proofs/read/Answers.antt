-- `session_calls::read` meets its contract: 7, the stop, and then the device's own read. Assumes nothing.
use mathlib.Core.Path.{refl}
use Rattle.std.proofs.Common.{rules}
use Rattle.refusals.specs.Nonzero.{refusal-nonzero}
use Rattle.session_calls.proofs.Fetches.{read-size, read-stopped, read_device}
use Rattle.session_calls.proofs.read.Goals as goal

pub returns-then-media-told : goal.returns-then-media-told
returns-then-media-told c = read-size _ _ _ _ _ c.if-media-told.true

pub returns-in_err-refusal : goal.returns-in_err-refusal
returns-in_err-refusal c =
    let start = c.args in
    let t = read-stopped start.told start.counters start.media.now start.offset start.dst.now c.if-media-told.false _ c.in_err-refusal.ensures (refusal-nonzero _) in
    search rules

pub returns-in_err-read : goal.returns-in_err-read
returns-in_err-read c =
    let start = c.args in
    let t = read_device start.told start.counters start.media.now start.offset start.dst.now c.if-media-told.false _ c.in_ok-refusal.ensures refl _ _ c.in_err-read.ensures in
    search rules

pub returns : goal.returns
returns c = read_device _ _ _ _ _ c.if-media-told.false _ c.in_ok-refusal.ensures refl _ _ c.in_ok-read.ensures
