-- `script::mark_line` meets its contract: the three numbers are read, or the line is faulty. Assumes nothing.
use borrow.Author.Rules.{rules}
use Rattle.script.proofs.Letters.{letters}
use Rattle.script.proofs.mark_line.Goals as goal

pub returns-in_err-id : goal.returns-in_err-id
returns-in_err-id c = search (rules, letters)

pub returns-in_err-first : goal.returns-in_err-first
returns-in_err-first c = search (rules, letters)

pub returns-in_err-last : goal.returns-in_err-last
returns-in_err-last c = search (rules, letters)

pub returns : goal.returns
returns c = rw c.bare_row.ensures (search (rules, letters))
