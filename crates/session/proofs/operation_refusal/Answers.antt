-- `session::operation_refusal` meets its contract. Assumes nothing.
use borrow.Author.Tests.{lt-ltb, le-ltb}
use Rattle.basics.specs.Tests.{unless}
use Rattle.session.specs.Tests.{operation_test}
use Rattle.session.proofs.operation_refusal.Goals as goal

pub returns-then-operations-ge-OPERATIONS : goal.returns-then-operations-ge-OPERATIONS
unfolding operation_test unless
returns-then-operations-ge-OPERATIONS c = simp (le-ltb _ _ c.if-operations-ge-OPERATIONS.true)

pub returns : goal.returns
unfolding operation_test unless
returns c = simp (lt-ltb _ _ c.if-operations-ge-OPERATIONS.false)
