-- `script::other_letter` meets its contract: the product is 0 for `N` and `S` alone. Assumes nothing.
use borrow.Author.Rules.{rules}
use Rattle.script.proofs.Letters.{product-tells}
use Rattle.script.proofs.other_letter.Goals as goal

pub returns : goal.returns
returns c = search (rules, product-tells)
