-- `session::next_count` meets its contract: below the limit one more fits. Assumes nothing.
use borrow.Author.Tests.{lt-ltb, le-ltb}
use Rattle.session.specs.Armed.{next_count}
use Rattle.session.proofs.next_count.Goals as goal

pub returns-then-operations-lt-OPERATIONS : goal.returns-then-operations-lt-OPERATIONS
unfolding next_count
returns-then-operations-lt-OPERATIONS c = simp (lt-ltb _ _ c.if-operations-lt-OPERATIONS.true)

pub returns-else-operations-lt-OPERATIONS : goal.returns-else-operations-lt-OPERATIONS
unfolding next_count
returns-else-operations-lt-OPERATIONS c = simp (le-ltb _ _ c.if-operations-lt-OPERATIONS.false)
