-- `script::read_head` meets its contract: letter, numbers and letters are read one after the other, or line 1 has no such fields. Assumes nothing.
use borrow.Author.Rules.{rules}
use Rattle.script.proofs.Heads.{heads}
use Rattle.script.proofs.read_head.Goals as goal

pub returns-in_err-kind : goal.returns-in_err-kind
returns-in_err-kind c = search (rules, heads)

pub returns-then-kind-ne71 : goal.returns-then-kind-ne71
returns-then-kind-ne71 c = search (rules, heads)

pub returns-in_err-geometry : goal.returns-in_err-geometry
returns-in_err-geometry c = search (rules, heads)

pub returns-in_err-rule : goal.returns-in_err-rule
returns-in_err-rule c = search (rules, heads)

pub returns-then-rule : goal.returns-then-rule
returns-then-rule c = search (rules, heads)

pub returns-in_err-mode : goal.returns-in_err-mode
returns-in_err-mode c = search (rules, heads)

pub returns-then-mode : goal.returns-then-mode
returns-then-mode c = search (rules, heads)

pub returns : goal.returns
returns c = search (rules, heads)
