-- `held::is_in` meets its contract: kind and span, or a barrier. Assumes nothing.
use Rattle.held.proofs.Alike.{program-row, erase-row, barrier-row}
use Rattle.held.proofs.is_in.Goals as goal

pub returns-in-Program : goal.returns-in-Program
returns-in-Program c = rw c.in-Program.is (program-row _ _ _ _ _)

pub returns-in-Erase : goal.returns-in-Erase
returns-in-Erase c = rw c.in-Erase.is (erase-row _ _ _ _ _)

pub returns-in-Barrier : goal.returns-in-Barrier
returns-in-Barrier c = rw c.in-Barrier.is (barrier-row _ _ _)
