-- `inject::seek_one` meets its contract: place 0 is the point, any other lies past it. Assumes nothing.
use Rattle.inject.proofs.Searches.{onward-here, onward-one}
use Rattle.inject.proofs.seek_one.Goals as goal

pub returns-then-left-eq0 : goal.returns-then-left-eq0
returns-then-left-eq0 c = rw c.in-Err.is (onward-here _ _ c.if-left-eq0.true)

pub returns-else-left-eq0 : goal.returns-else-left-eq0
returns-else-left-eq0 c = rw c.in-Err.is (onward-one _ _ c.if-left-eq0.false)
