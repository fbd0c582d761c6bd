-- `inject::seek_lone` meets its contract: a list with operations has no such point. Assumes nothing.
use Rattle.inject.proofs.Searches.{onward-none}
use Rattle.inject.proofs.seek_lone.Goals as goal

pub returns-then-operations-ne0 : goal.returns-then-operations-ne0
returns-then-operations-ne0 c = onward-none _ _ c.if-operations-ne0.true
