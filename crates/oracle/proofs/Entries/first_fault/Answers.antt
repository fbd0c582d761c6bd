-- `oracle::Entries::first_fault` meets its contract: the breach of the least faulty id is the first by rising value. Assumes nothing.
use Rattle.std.proofs.Common.{rules}
use Rattle.oracle.proofs.Pass.{passed}
use Rattle.oracle.proofs.Entries.first_fault.Goals as goal

pub returns-in-None : goal.returns-in-None
returns-in-None c = search (rules, passed)

pub returns-in-Some : goal.returns-in-Some
returns-in-Some c = search (rules, passed)
