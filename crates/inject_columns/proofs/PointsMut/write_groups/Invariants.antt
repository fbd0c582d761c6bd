-- `inject_columns::PointsMut::write_groups` meets its contract. The invariant: the points from row `i` on, laid from `next` on what the columns
-- hold, are the whole laid on what they held. Assumes nothing.
use mathlib.Core.Path.{◌≡◌}
use Rattle.inject_columns.specs.Answers.{points_in, SamePoints}
use Rattle.inject_columns.specs.Steps.{under_of, laid_from}
use Rattle.inject.proofs.Rests.{rest}
use Rattle.inject_columns.proofs.Rows.{Kept}
use Rattle.inject_columns.proofs.PointsMut.write_groups.Given as goal

abbrev pub invariant-loop-i : goal.invariant-loop-i
invariant-loop-i l = let o = l.sequence.ops in SamePoints l.initial.self l.self
    × Kept (points_in l.initial.self) (points_in l.self)
    × (laid_from l.next (rest l.sequence.geometry l.cause l.i o.kinds.now o.offsets.now o.lens.now) (points_in l.self) ≡ laid_from l.at (under_of l.sequence l.cause) (points_in l.initial.self))
