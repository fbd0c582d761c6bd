-- `read_fields::read_letter` meets its contract: each way out is one case of the field. Assumes nothing.
use borrow.Author.Rules.{rules}
use Rattle.read_fields.proofs.Letters.{letters}
use Rattle.read_fields.proofs.read_letter.Goals as goal

pub returns-in_err-byte : goal.returns-in_err-byte
returns-in_err-byte c = search (rules, letters)

pub returns-then-byte-end : goal.returns-then-byte-end
returns-then-byte-end c = search (rules, letters)

pub returns-in_err-get : goal.returns-in_err-get
returns-in_err-get c = search (rules, letters)

pub returns-then-branch-end : goal.returns-then-branch-end
returns-then-branch-end c = search (rules, letters)

pub returns : goal.returns
returns c = search (rules, letters)
