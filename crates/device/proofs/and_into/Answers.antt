-- `device::and_into` meets its contract: after i turns the first i bytes of `out` are the AND and the others as they were. Assumes nothing.
use mathlib.Core.Path.{◌≡◌, sym, ◌∙◌}
use Prim.Native.Nat.{◌<◌}
use native.Mathlib.Omega.{arith}
use lib.ListN.{length, get_or, length-set}
use lib.Bits.{bit_and}
use Rattle.basics.proofs.Overwrites.{over-more, over-all}
use Rattle.device.specs.Media.{anded}
use Rattle.device.proofs.Cells.{length-anded, get_or-anded}
use Rattle.device.proofs.and_into.Goals as goal

pub loop-i-preserved : goal.loop-i-preserved
loop-i-preserved c =
    let cells = c.args.cells.now in
    let src = c.args.src.now in
    let old = c.args.out.now in
    let new = anded cells src in
    let i = c.loop-i.i in
    let k : i < length src = omega arith in
    let h : i < length cells = omega arith in
    let o : i < length old = omega arith in
    let n : i < length new = rw (length-anded cells src c.requires.0) h in (
      simp length-set c.loop-i.invariant.0,
      over-more new old c.loop-i.out i (bit_and (get_or cells i 0) (get_or src i 0)) 0 n o c.loop-i.invariant.1 (sym (get_or-anded cells src i h k)),
    )

pub returns : goal.returns
returns c =
    let cells = c.args.cells.now in
    let src = c.args.src.now in
    let old = c.args.out.now in
    let l : length (anded cells src) ≡ length cells = length-anded cells src c.requires.0 in
    c.loop-i.invariant.1 ∙ over-all (anded cells src) old c.loop-i.i (omega arith) (omega arith)
