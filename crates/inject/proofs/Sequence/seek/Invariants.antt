-- `inject::Sequence::seek` meets its contract. The invariant: what is left of the place, sought from row `i` on, is the place sought in the
-- whole. Assumes nothing.
use mathlib.Core.Path.{◌≡◌}
use Rattle.inject.specs.Ops.{ops_of}
use Rattle.inject.specs.Points.{under}
use Rattle.inject.specs.Steps.{sought, onward}
use Rattle.inject.proofs.Rests.{rest}
use Rattle.inject.proofs.Sequence.seek.Given as goal

abbrev pub invariant-loop-i : goal.invariant-loop-i
invariant-loop-i l = let o = l.self.ops in
    sought (rest l.self.geometry l.cause l.i o.kinds.now o.offsets.now o.lens.now) l.left ≡ onward l.fn.before (under l.self.geometry l.cause 0 (ops_of o.kinds.now o.offsets.now o.lens.now))
