-- `device_calls::copy_cells` meets its contract: after i turns the first i bytes of `dst` are the cells' and the others as they were. Assumes nothing.
use mathlib.Core.Path.{refl}
use native.Mathlib.Omega.{arith}
use lib.ListN.{get_or, length-set}
use Rattle.basics.proofs.Overwrites.{over-more}
use Rattle.device_calls.proofs.copy_cells.Goals as goal

pub loop-i-preserved : goal.loop-i-preserved
loop-i-preserved c =
    let new = c.args.cells.now in
    let old = c.args.dst.now in
    let i = c.loop-i.i in (
      simp length-set c.loop-i.invariant.0,
      over-more new old c.loop-i.dst i (get_or new i 0) 0 (omega arith) (omega arith) c.loop-i.invariant.1 refl,
    )
