-- `text::spell` meets its contract. The loop has written the digits from `i` on, and those before are the digits of `rest`. Assumes nothing.
use borrow.Author.Rules.{rules}
use Rattle.text.proofs.Decimals.{decimals}
use Rattle.text.proofs.spell.Goals as goal

pub loop-i-init : goal.loop-i-init
loop-i-init c = search (rules, decimals)
