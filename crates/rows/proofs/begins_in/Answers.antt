-- `rows::begins_in` meets its contract: those found and those in the codes not yet read are all. Assumes nothing.
use native.Mathlib.Omega.{arith}
use Rattle.rows.proofs.Scanned.{begins-row, begins-all, flag-is, flag-le}
use Rattle.rows.proofs.begins_in.Goals as goal

pub loop-kind-preserved : goal.loop-kind-preserved
loop-kind-preserved c =
    let l = c.loop-kind in (
      omega (arith, flag-le _ _ c.from-begins.ensures),
      omega (arith, flag-le _ _ c.from-marks.ensures),
      rw (flag-is _ _ c.from-begins.ensures, flag-is _ _ c.from-marks.ensures) (begins-row c.args.kinds.now _ _ _ l.invariant.2 c.loop-kind-test.true),
    )

pub returns : goal.returns
returns c = begins-all c.args.kinds.now _ _ _ c.loop-kind.invariant.2 c.loop-kind-test.false
