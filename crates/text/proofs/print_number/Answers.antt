-- `text::print_number` meets its contract: the digits are written over the part of the buffer that is theirs, or they do not fit. Assumes nothing.
use borrow.Author.Rules.{rules}
use Rattle.text.proofs.Decimals.{decimals}
use Rattle.text.proofs.print_number.Goals as goal

pub returns : goal.returns
returns c = search (rules, decimals)
