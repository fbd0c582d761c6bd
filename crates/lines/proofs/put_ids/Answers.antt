-- `lines::put_ids` meets its contract: the ids from the turn's own on are still to be written. Assumes nothing.
use mathlib.Core.Path.{◌∙◌}
use Rattle.lines.proofs.Ids.{ids-put, ids-put-end}
use Rattle.lines.proofs.put_ids.Goals as goal

pub loop-id-preserved : goal.loop-id-preserved
loop-id-preserved c =
    (c.put_field.ensures.same ∙ c.loop-id.invariant.0, ids-put _ _ _ _ _ c.loop-id.invariant.1 c.loop-id-test.true c.put_field.ensures.put)

pub returns-clause-put : goal.returns-clause-put
returns-clause-put c = ids-put-end _ _ _ _ c.loop-id.invariant.1 c.loop-id-test.false
