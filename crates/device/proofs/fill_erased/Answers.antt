-- `device::fill_erased` meets its contract: after i turns the first i media are erased and the others as they were. Assumes nothing.
use mathlib.Core.Path.{sym}
use Prim.Native.Nat.{◌<◌}
use native.Mathlib.Omega.{arith}
use lib.ListN.{length, replicate, length-set, length-replicate, get_or-replicate}
use Rattle.device.specs.Media.{ff}
use Rattle.basics.proofs.Overwrites.{over-more}
use Rattle.device.proofs.fill_erased.Goals as goal

pub loop-i-preserved : goal.loop-i-preserved
loop-i-preserved c =
    let old = c.args.media.now in
    let n = length old in
    let i = c.loop-i.i in
    let h : i < n = omega arith in (
      simp length-set c.loop-i.invariant.0,
      over-more (replicate n ff) old c.loop-i.media i ff 0 (rw length-replicate h) h c.loop-i.invariant.1 (sym (get_or-replicate n i ff 0 h)),
    )
