-- `refusals::columns_refusal` meets its contract: 12 before 13. Assumes nothing.
use Rattle.basics.specs.Tests.{refuse_if, first_of}
use Rattle.refusals.proofs.columns_refusal.Goals as goal

pub returns-then-uneven : goal.returns-then-uneven
unfolding refuse_if first_of
returns-then-uneven c = simp c.if-uneven.true

pub returns-then-short : goal.returns-then-short
unfolding refuse_if first_of
returns-then-short c = simp (c.if-uneven.false, c.if-short.true)

pub returns : goal.returns
unfolding refuse_if first_of
returns c = simp (c.if-uneven.false, c.if-short.false)
