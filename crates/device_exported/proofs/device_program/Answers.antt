-- `device_exported::device_program` meets its contract: the number is the call's reply, and the rest is what it leaves. Assumes nothing.
use mathlib.Core.Path.{ap, ◌∙◌}
use Rattle.device_calls.specs.Calls.{Called, program_call}
use Rattle.device_exported.proofs.device_program.Goals as goal

pub returns : goal.returns
unfolding program_call
returns c = rw (← c.units-geometry.ensures, ← c.from-bits.ensures) (c.number_in.ensures ∙ ap (λ (a : Called). a.reply) c.program.ensures, ap (λ (a : Called). a.content) c.program.ensures)
