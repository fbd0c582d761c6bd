-- `device_exported::device_read` meets its contract: the number is the call's reply, and the rest is what it leaves. Assumes nothing.
use mathlib.Core.Path.{ap, ◌∙◌}
use Rattle.device_calls.specs.Calls.{Called, read_call}
use Rattle.device_exported.proofs.device_read.Goals as goal

pub returns : goal.returns
unfolding read_call
returns c = rw (← c.units-geometry.ensures) (c.number_in.ensures ∙ ap (λ (a : Called). a.reply) c.read.ensures, ap (λ (a : Called). a.content) c.read.ensures)
