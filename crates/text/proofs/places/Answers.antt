-- `text::places` meets its contract: a number below 10, 100 or 1,000 has one, two or three digits, another one more than its logarithm.
-- Assumes nothing.
use native.Mathlib.Omega.{arith}
use borrow.Author.Rules.{rules}
use Rattle.text.proofs.Decimals.{decimals, places-one, places-some}
use Rattle.text.proofs.places.Goals as goal

pub returns-then-n-lt10 : goal.returns-then-n-lt10
returns-then-n-lt10 c = places-one c.args.n c.if-n-lt10.true

pub returns-then-n-lt100 : goal.returns-then-n-lt100
returns-then-n-lt100 c = places-some c.args.n 1 (omega (arith, c.if-n-lt10.false)) (omega (arith, c.if-n-lt100.true)) (omega arith)

pub returns-then-n-lt1000 : goal.returns-then-n-lt1000
returns-then-n-lt1000 c = places-some c.args.n 2 (omega (arith, c.if-n-lt100.false)) (omega (arith, c.if-n-lt1000.true)) (omega arith)

pub returns-in-Some : goal.returns-in-Some
returns-in-Some c = search (rules, decimals)

pub returns-in-None : goal.returns-in-None
returns-in-None c = search (rules, decimals)
