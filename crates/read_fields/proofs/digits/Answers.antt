-- `read_fields::digits` meets its contract. The loop has not changed what is to be answered: it is what the digits from `i` on
-- give, after digits of value `value`. Assumes nothing.
use borrow.Author.Rules.{rules}
use Rattle.read_fields.proofs.Numbers.{numbers}
use Rattle.read_fields.proofs.digits.Goals as goal

pub returns-then-b-end : goal.returns-then-b-end
returns-then-b-end c = search (rules, numbers)

pub returns-then-not-is_ascii_digit : goal.returns-then-not-is_ascii_digit
returns-then-not-is_ascii_digit c = search (rules, numbers)

pub returns-then-value-from : goal.returns-then-value-from
returns-then-value-from c = search (rules, numbers)

pub loop-i-preserved : goal.loop-i-preserved
loop-i-preserved c = search (rules, numbers)

pub returns : goal.returns
returns c = search (rules, numbers)
