-- `held::same_through` meets its contract: operations, digests and marks. Assumes nothing.
use Rattle.std.proofs.Common.{rules}
use Rattle.held.specs.Held.{same_through}
use Rattle.held.proofs.same_through.Goals as goal

pub returns : goal.returns
unfolding same_through
returns c = search rules
