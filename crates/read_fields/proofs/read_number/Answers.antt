-- `read_fields::read_number` meets its contract: each way out is one case of the field, and digits of which the first is no zero are its number. Assumes nothing.
use borrow.Author.Rules.{rules}
use Rattle.read_fields.proofs.Numbers.{numbers}
use Rattle.read_fields.proofs.read_number.Goals as goal

pub returns-in_err-first : goal.returns-in_err-first
returns-in_err-first c = search (rules, numbers)

pub returns-then-first-end : goal.returns-then-first-end
returns-then-first-end c = search (rules, numbers)

pub returns-then-first-ne48 : goal.returns-then-first-ne48
returns-then-first-ne48 c = search (rules, numbers)

pub returns-in_err-get : goal.returns-in_err-get
returns-in_err-get c = search (rules, numbers)

pub returns-then-branch-end : goal.returns-then-branch-end
returns-then-branch-end c = search (rules, numbers)

pub returns : goal.returns
returns c = search (rules, numbers)
