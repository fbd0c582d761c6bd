-- `session_program::bit_refusal` meets its contract: the bytes matter under one rule alone. Assumes nothing.
use mathlib.Core.Path.{◌≡◌, refl}
use mathlib.Core.Bool.{true, false, ◌&&◌}
use denote.Enum.Bare.{sameb}
use Rattle.basics.proofs.Tests.{refuse-if, refuse-not}
use Rattle.device.specs.contracts.OneWayBits.{the_type}
use Rattle.device.specs.declared.OneWayBits.{OneWayBits}
use Rattle.device.specs.declared.OneWayBits.TheVariants.{Absorbed, Rejected}
use Rattle.device.specs.Media.{would_set_a_bit}
use Rattle.device.specs.Answers.{rejects}
use Rattle.session_program.specs.Program.{bit_test}
use Rattle.session_program.proofs.bit_refusal.Goals as goal
use Rattle.session_program.proofs.bit_refusal.Goals.{else-eq-via-then-eq+else-would_set_a_bit, else-eq-via-else-eq}

-- the rule that is compared is the rule that refuses
rejecting : (rule : OneWayBits) → sameb the_type rule Rejected ≡ rejects rule
rejecting Absorbed = refl
rejecting Rejected = refl

pub returns-then-would_set_a_bit : goal.returns-then-would_set_a_bit
unfolding bit_test
returns-then-would_set_a_bit c =
    let both : (rejects c.args.bits && would_set_a_bit c.args.media.now c.args.offset c.args.bytes.now) ≡ true =
    rw (← rejecting c.args.bits, ← c.if-eq.ensures, ← c.if-would_set_a_bit.ensures) in
    simp (refuse-if _ 20 both)

pub returns : goal.returns
unfolding bit_test
returns c =
    let neither : (rejects c.args.bits && would_set_a_bit c.args.media.now c.args.offset c.args.bytes.now) ≡ false =
    elim c.else-eq.branch [
      | else-eq-via-then-eq+else-would_set_a_bit w ↦ rw (← rejecting c.args.bits, ← w.if-eq.ensures, ← w.if-would_set_a_bit.ensures)
      | else-eq-via-else-eq w ↦ rw (← rejecting c.args.bits, ← w.if-eq.ensures)
    ] in
    simp (refuse-not _ 20 neither)
