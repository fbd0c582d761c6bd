-- `inject::Sequence::total` meets its contract. The invariant: the sum so far and the points from row `i` on make the whole. Assumes nothing.
use mathlib.Core.Path.{ap}
use native.Mathlib.Omega.{arith}
use lib.ListN.{length}
use Rattle.inject.proofs.Rests.{sound, rest-length, rest_end}
use Rattle.inject.proofs.Sequence.total.Goals as goal

pub loop-i-preserved : goal.loop-i-preserved
loop-i-preserved c =
    let more = rest-length _ _ _ _ _ (sound c.args.self.now) _ c.loop-i-test.true _ c.group_in-group.ensures in
    (omega arith, omega (arith, more, c.size-sum.ensures.0))

pub returns : goal.returns
returns c =
    let o = c.args.self.now.ops in
    let end = ap length (rest_end c.args.self.now.geometry c.args.cause c.loop-i.i o.kinds.now o.offsets.now o.lens.now c.loop-i-test.false) in
    (omega (arith, end), omega (arith, c.args.self.now.sound.2))
