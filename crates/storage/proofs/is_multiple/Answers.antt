-- `storage::is_multiple` meets its contract: below a unit with one bit set the mask unit - 1 is the remainder. Assumes nothing.
use borrow.Author.Tests.{eqb-true}
use Rattle.storage.proofs.Powers.{masked}
use Rattle.storage.proofs.is_multiple.Goals as goal

pub returns : goal.returns
returns c = rw (masked c.args.value c.args.unit (eqb-true _ _ c.requires))
