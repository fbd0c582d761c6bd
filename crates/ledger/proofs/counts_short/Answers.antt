-- `ledger::counts_short` meets its contract. Assumes nothing.
use mathlib.Core.Path.{refl}
use Rattle.ledger.specs.Ledger.{counts_short}
use Rattle.ledger.proofs.counts_short.Goals as goal

pub returns : goal.returns
unfolding counts_short
returns c = refl
