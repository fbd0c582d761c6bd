-- `oracle::first_unaccounted` meets its contract: no dispatched id before this one is lost. Assumes nothing.
use Rattle.std.proofs.Common.{rules}
use Rattle.oracle.proofs.Pass.{passed}
use Rattle.oracle.proofs.first_unaccounted.Goals as goal

pub returns-then-not-contains : goal.returns-then-not-contains
returns-then-not-contains c = search (rules, passed)

pub loop-intent-preserved : goal.loop-intent-preserved
loop-intent-preserved c = search (rules, passed)

pub returns : goal.returns
returns c = search (rules, passed)
