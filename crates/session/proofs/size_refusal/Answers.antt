-- `session::size_refusal` meets its contract: both lengths are held to the capacity. Assumes nothing.
use Rattle.basics.specs.Tests.{refuse_if}
use Rattle.session.specs.Tests.{size_test}
use Rattle.session.proofs.size_refusal.Goals as goal

pub returns-then-media-capacity : goal.returns-then-media-capacity
unfolding size_test refuse_if
returns-then-media-capacity c = simp c.if-media-capacity.true

pub returns : goal.returns
unfolding size_test refuse_if
returns c = simp c.if-media-capacity.false
