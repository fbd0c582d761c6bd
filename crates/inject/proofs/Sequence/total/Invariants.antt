-- `inject::Sequence::total` meets its contract. The invariant: the sum so far and the points from row `i` on make the whole. Assumes nothing.
use mathlib.Core.Path.{◌≡◌}
use Prim.Native.Nat.{◌+◌, ◌*◌, ◌≤◌}
use lib.ListN.{length}
use Rattle.inject.specs.Ops.{ops_of}
use Rattle.inject.specs.Points.{under}
use Rattle.inject.proofs.Rests.{rest}
use Rattle.inject.proofs.Sequence.total.Given as goal

abbrev pub invariant-loop-i : goal.invariant-loop-i
invariant-loop-i l = let o = l.self.ops in (l.sum ≤ 4294967297 * l.i)
    × (l.sum + length (rest l.self.geometry l.cause l.i o.kinds.now o.offsets.now o.lens.now) ≡ length (under l.self.geometry l.cause 0 (ops_of o.kinds.now o.offsets.now o.lens.now)))
