-- `inject::Sequence::count` meets its contract: the opening point and the lengths of the four parts. Assumes nothing.
use Rattle.inject.proofs.Rests.{sound}
use Rattle.inject.proofs.Whole.{whole-count}
use Rattle.inject.proofs.Sequence.count.Goals as goal

pub returns : goal.returns
returns c =
    whole-count _ _ _ _ (sound c.args.self.now) _ _ _ _ c.total-lost.ensures.0
    c.lone_count-alone.ensures.0 c.total-reset.ensures.0 c.total-failed.ensures.0
