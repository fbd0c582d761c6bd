-- `device_exported::device_erase` meets its contract: the number is the call's reply, and the rest is what it leaves. Assumes nothing.
use mathlib.Core.Path.{ap, ◌∙◌}
use Rattle.device_calls.specs.Calls.{Called, erase_call}
use Rattle.device_exported.proofs.device_erase.Goals as goal

pub returns : goal.returns
unfolding erase_call
returns c = rw (← c.units-geometry.ensures) (c.number_in.ensures ∙ ap (λ (a : Called). a.reply) c.erase.ensures, ap (λ (a : Called). a.content) c.erase.ensures)
