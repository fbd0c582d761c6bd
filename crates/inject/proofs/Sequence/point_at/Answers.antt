-- `inject::Sequence::point_at` meets its contract: one search through the list's five parts. Assumes nothing.
use Rattle.inject.proofs.Rests.{sound}
use Rattle.inject.proofs.Whole.{whole-search}
use Rattle.inject.proofs.Sequence.point_at.Goals as goal

pub returns : goal.returns
returns c =
    whole-search _ _ _ _ (sound c.args.self.now) _ _ _ _ _ _ c.seek_one-opened.ensures c.seek-lost.ensures
    c.seek_lone-lone.ensures c.seek-reset.ensures c.seek.ensures
