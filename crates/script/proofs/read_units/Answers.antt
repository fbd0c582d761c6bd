-- `script::read_units` meets its contract: the four numbers are read one after the other, or line 1 has no such fields. Assumes nothing.
use borrow.Author.Rules.{rules}
use Rattle.script.proofs.Heads.{heads}
use Rattle.script.proofs.read_units.Goals as goal

pub returns-in_err-capacity : goal.returns-in_err-capacity
returns-in_err-capacity c = search (rules, heads)

pub returns-in_err-erase_size : goal.returns-in_err-erase_size
returns-in_err-erase_size c = search (rules, heads)

pub returns-in_err-program_size : goal.returns-in_err-program_size
returns-in_err-program_size c = search (rules, heads)

pub returns-in_err-read_size : goal.returns-in_err-read_size
returns-in_err-read_size c = search (rules, heads)

pub returns : goal.returns
returns c = search (rules, heads)
