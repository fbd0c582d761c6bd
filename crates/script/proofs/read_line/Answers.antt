-- `script::read_line` meets its contract: the letter, and the byte after it, say which reader the line is for. Assumes nothing.
use borrow.Author.Rules.{rules}
use Rattle.script.proofs.Letters.{letters, line-long-at, line-none-at}
use Rattle.script.proofs.read_line.Goals as goal

pub returns-then-text-past : goal.returns-then-text-past
returns-then-text-past c = search (rules, letters)

pub returns-then-end-ne-TAB : goal.returns-then-end-ne-TAB
returns-then-end-ne-TAB c = line-long-at _ _ c.if-text-past.false c.if-end-eq-LF.false c.if-end-ne-TAB.true

pub returns-in_default : goal.returns-in_default
returns-in_default c = line-none-at _ _ c.if-text-past.false c.if-end-ne-TAB.false (search rules) (search rules) (search rules) (search rules)
