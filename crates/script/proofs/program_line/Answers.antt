-- `script::program_line` meets its contract: the offset and the pairs are read, and the pairs are not too many, or the line is faulty. Assumes nothing.
use borrow.Author.Rules.{rules}
use Rattle.script.proofs.Letters.{letters}
use Rattle.script.proofs.program_line.Goals as goal

pub returns-in_err-offset : goal.returns-in_err-offset
returns-in_err-offset c = search (rules, letters)

pub returns-in_err-count : goal.returns-in_err-count
returns-in_err-count c = search (rules, letters)

pub returns-then-count-gt-MOST_PROGRAM : goal.returns-then-count-gt-MOST_PROGRAM
returns-then-count-gt-MOST_PROGRAM c = search (rules, letters)

pub returns : goal.returns
returns c = search (rules, letters)
