-- `script::begin_line` meets its contract: the id is read up to the LF, or the line is faulty. Assumes nothing.
use borrow.Author.Rules.{rules}
use Rattle.script.proofs.Letters.{letters}
use Rattle.script.proofs.begin_line.Goals as goal

pub returns-in_err-id : goal.returns-in_err-id
returns-in_err-id c = search (rules, letters)

pub returns : goal.returns
returns c = rw c.bare_row.ensures (search (rules, letters))
