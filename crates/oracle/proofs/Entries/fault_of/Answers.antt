-- `oracle::Entries::fault_of` meets its contract: an id's first entry stands where the id first stands in the first column. Assumes nothing.
use Rattle.std.proofs.Common.{rules}
use Rattle.oracle.proofs.Pass.{passed}
use Rattle.oracle.proofs.Entries.fault_of.Goals as goal

pub returns-in_default : goal.returns-in_default
returns-in_default c = let e = c.args.self.now.even in search (rules, passed, e)

pub bounds-self-row : goal.bounds-self-row
bounds-self-row c = let e = c.args.self.now.even in search (rules, passed, e)

pub returns-then-self-row : goal.returns-then-self-row
returns-then-self-row c = let e = c.args.self.now.even in search (rules, passed, e)

pub returns-then-self-row-eq1 : goal.returns-then-self-row-eq1
returns-then-self-row-eq1 c = let e = c.args.self.now.even in search (rules, passed, e)

pub returns : goal.returns
returns c = let e = c.args.self.now.even in search (rules, passed, e)
