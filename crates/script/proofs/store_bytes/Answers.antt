-- `script::store_bytes` meets its contract: there is nothing to store, or the part of the pool that was lent comes back. Assumes nothing.
use borrow.Author.Rules.{rules}
use Rattle.script.proofs.Fills.{stores}
use Rattle.script.proofs.store_bytes.Goals as goal

pub returns-then-free-used : goal.returns-then-free-used
returns-then-free-used c = search (rules, stores)

pub returns : goal.returns
returns c = search (rules, stores)
