-- `armed_runs::told_by` meets its contract. Assumes nothing.
use mathlib.Core.Path.{ap, ◌∙◌}
use Rattle.device.specs.declared.OneWayBits.{OneWayBits}
use Rattle.session.specs.Armed.{told_with}
use Rattle.armed_runs.proofs.told_by.Goals as goal

pub returns : goal.returns
returns c = c.told_with.ensures ∙ ap (λ (b : OneWayBits). told_with c.args.head.geometry b c.args.armed) c.rule_of.ensures
