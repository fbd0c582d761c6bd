-- `script::erase_line` meets its contract: the two numbers are read, or the line is faulty. Assumes nothing.
use borrow.Author.Rules.{rules}
use Rattle.script.proofs.Letters.{letters}
use Rattle.script.proofs.erase_line.Goals as goal

pub returns-in_err-offset : goal.returns-in_err-offset
returns-in_err-offset c = search (rules, letters)

pub returns-in_err-len : goal.returns-in_err-len
returns-in_err-len c = search (rules, letters)

pub returns : goal.returns
returns c = rw c.bare_row.ensures (search (rules, letters))
