-- `landing::steps_of` meets its contract: what is rounded down is no more than it was. Assumes nothing.
use native.Mathlib.Nat.{div-mul-le_self, mul-zero}
use native.Mathlib.Omega.{arith}
use Rattle.landing.specs.Landed.{rounded_down}
use borrow.Author.Rules.{rules}
use Rattle.landing.proofs.steps_of.Goals as goal

pub returns-then-step-eq0 : goal.returns-then-step-eq0
unfolding rounded_down
returns-then-step-eq0 c = simp (c.if-step-eq0.true, mul-zero)

pub overflow_mul-result : goal.overflow_mul-result
overflow_mul-result c = omega (arith, div-mul-le_self c.args.landed c.args.step)

pub returns : goal.returns
unfolding rounded_down
returns c = search rules
