-- `ledger::codes_known` meets its contract. Assumes nothing.
use Rattle.std.proofs.Common.{rules}
use Rattle.ledger.specs.Ledger.{codes_known}
use Rattle.ledger.proofs.codes_known.Goals as goal

pub returns : goal.returns
unfolding codes_known
returns c = search rules
