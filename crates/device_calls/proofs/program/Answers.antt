-- `device_calls::program` meets its contract: refused, the media are as they were; accepted, they are what `apply_program` left. Assumes nothing.
use mathlib.Core.Path.{◌≡◌, refl, ap}
use mathlib.Core.Bool.{true, false, ◌&&◌}
use lib.ListN.{length}
use denote.Enum.Bare.{sameb}
use Rattle.std.proofs.Common.{rules}
use Rattle.storage.specs.Nonzero.{error-nonzero}
use Rattle.device.specs.contracts.OneWayBits.{the_type}
use Rattle.device.specs.declared.OneWayBits.{OneWayBits}
use Rattle.device.specs.declared.OneWayBits.TheVariants.{Absorbed, Rejected}
use Rattle.device.specs.Media.{Applied, would_set_a_bit}
use Rattle.device.specs.Answers.{rejects}
use Rattle.device_calls.specs.Nonzero.{fault-nonzero}
use Rattle.device_calls.specs.Calls.{write_refusal}
use Rattle.device_calls.proofs.Replies.{long-refused, span-refused, media-refused, program-refused, program-rejected, program-accepted}
use Rattle.device_calls.proofs.program.Goals as goal
use Rattle.device_calls.proofs.program.Goals.{In_ok-check_media, else-eq-via-then-eq+else-would_set_a_bit, else-eq-via-else-eq}

-- the rule that is compared is the rule that refuses
rejecting : (rule : OneWayBits) → sameb the_type rule Rejected ≡ rejects rule
rejecting Absorbed = refl
rejecting Rejected = refl

-- the length, the span and the media passed
accepted : (c : goal.In_ok-check_media) → 0 ≡ write_refusal c.args.geometry (length c.args.media.now) c.args.offset (length c.args.src.now)
unfolding write_refusal
accepted c =
    let start = c.args in
    media-refused start.geometry start.geometry.program_size (length start.media.now) start.offset (length start.src.now) _ c.in_ok-len.ensures _
    c.in_ok-validate_program.ensures c.in_ok-check_media.ensures

pub returns-in_err-len : goal.returns-in_err-len
unfolding write_refusal
returns-in_err-len c =
    let start = c.args in
    let n = long-refused start.geometry start.geometry.program_size (length start.media.now) start.offset (length start.src.now) _ c.in_err-len.ensures in
    let t = program-refused start.geometry start.rule start.media.now start.offset start.src.now _ n (error-nonzero _) in
    search rules

pub returns-in_err-validate_program : goal.returns-in_err-validate_program
unfolding write_refusal
returns-in_err-validate_program c =
    let start = c.args in
    let n = span-refused start.geometry start.geometry.program_size (length start.media.now) start.offset (length start.src.now) _ c.in_ok-len.ensures _ c.in_err-validate_program.ensures (error-nonzero _) in
    let t = program-refused start.geometry start.rule start.media.now start.offset start.src.now _ n (error-nonzero _) in
    search rules

pub returns-in_err-check_media : goal.returns-in_err-check_media
unfolding write_refusal
returns-in_err-check_media c =
    let start = c.args in
    let n = media-refused start.geometry start.geometry.program_size (length start.media.now) start.offset (length start.src.now) _ c.in_ok-len.ensures _ c.in_ok-validate_program.ensures c.in_err-check_media.ensures in
    let t = program-refused start.geometry start.rule start.media.now start.offset start.src.now _ n (fault-nonzero _) in
    search rules

pub returns-then-would_set_a_bit : goal.returns-then-would_set_a_bit
returns-then-would_set_a_bit c =
    let start = c.args in
    let both : (rejects start.rule && would_set_a_bit start.media.now start.offset start.src.now) ≡ true =
    rw (← rejecting start.rule, ← c.if-eq.ensures, ← c.if-would_set_a_bit.ensures) in
    program-rejected start.geometry start.rule start.media.now start.offset start.src.now (accepted (goal.at.returns-then-would_set_a_bit c).In_ok-check_media) both

pub returns : goal.returns
returns c =
    let start = c.args in
    let neither : (rejects start.rule && would_set_a_bit start.media.now start.offset start.src.now) ≡ false =
    elim c.else-eq.branch [
      | else-eq-via-then-eq+else-would_set_a_bit w ↦ rw (← rejecting start.rule, ← w.if-eq.ensures, ← w.if-would_set_a_bit.ensures)
      | else-eq-via-else-eq w ↦ rw (← rejecting start.rule, ← w.if-eq.ensures)
    ] in
    program-accepted start.geometry start.rule start.media.now start.offset start.src.now (accepted (goal.at.returns c).In_ok-check_media) neither _
    (ap (λ (a : Applied). a.media) c.apply_program.ensures)
