-- `oracle::first_lost` meets its contract: no acknowledged id of the rows passed is lost. Assumes nothing.
use lib.ListN.{length}
use Rattle.oracle.proofs.Pass.{LostFrom}
use Rattle.oracle.proofs.first_lost.Given as goal

abbrev pub invariant-loop-id : goal.invariant-loop-id
invariant-loop-id l = LostFrom l.ledger.ids.now l.ledger.states.now l.history (length l.yielded)
