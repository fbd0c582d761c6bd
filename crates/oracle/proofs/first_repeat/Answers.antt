-- `oracle::first_repeat` meets its contract: none of the ids passed was seen before it. Assumes nothing.
use Rattle.std.proofs.Common.{rules}
use Rattle.oracle.proofs.Pass.{passed}
use Rattle.oracle.proofs.first_repeat.Goals as goal

pub returns-then-contains : goal.returns-then-contains
returns-then-contains c = search (rules, passed)

pub loop-place-preserved : goal.loop-place-preserved
loop-place-preserved c = search (rules, passed)

pub returns : goal.returns
returns c = search (rules, passed)
