-- `landing::unit_completed` meets its contract: what is raised fits into a u64. Assumes nothing.
use native.Mathlib.Nat.{pos_of_ne-zero}
use borrow.Author.Tests.{eq-eqb, ne_eqb}
use Rattle.landing.specs.Landed.{rounded_up}
use Rattle.landing.proofs.Multiples.{next-raised}
use Rattle.landing.proofs.unit_completed.Goals as goal

pub returns-then-unit-eq0 : goal.returns-then-unit-eq0
unfolding rounded_up
returns-then-unit-eq0 c = simp (eq-eqb _ _ c.if-unit-eq0.true)

pub returns : goal.returns
unfolding rounded_up
returns c = simp (ne_eqb _ _ c.if-unit-eq0.false, c.min.ensures, c.next_multiple_of-raised.ensures.value, next-raised c.args.landed c.args.unit (pos_of_ne-zero c.if-unit-eq0.false))
