-- `rows::any_outside` meets its contract: what was found and what the rows not yet read say, the columns say. Assumes nothing.
use native.Mathlib.Omega.{arith}
use Rattle.rows.proofs.Outside.{outside-next, outside-all}
use Rattle.rows.proofs.any_outside.Goals as goal

pub loop-i-preserved : goal.loop-i-preserved
loop-i-preserved c =
    let a = c.args in
    outside-next a.pool a.kinds.now a.lens.now a.starts.now _ _ c.lower-both.ensures.0 c.lower-rows.ensures.0 c.loop-i.i c.loop-i.outside c.loop-i.invariant c.loop-i-test.true _ c.is_outside-outside.ensures

pub returns : goal.returns
returns c =
    let a = c.args in
    outside-all a.pool a.kinds.now a.lens.now a.starts.now _ _ c.lower-both.ensures.0 c.lower-rows.ensures.0 c.loop-i.i c.loop-i.outside c.loop-i.invariant c.loop-i-test.false
