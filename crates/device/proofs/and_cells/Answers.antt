-- `device::and_cells` meets its contract: after i turns the first i cells are their AND with `src` and the others as they were,
-- and `changed` says whether one of those i differs from what it was. Assumes nothing.
use mathlib.Core.Path.{◌≡◌, sym, ap₂, ◌∙◌}
use mathlib.Core.Bool.{Bool, ◌||◌}
use Prim.Native.Nat.{◌<◌}
use native.Mathlib.Omega.{arith}
use lib.ListN.{length, get_or, length-set}
use lib.Bits.{bit_and}
use borrow.Author.Rules.{rules}
use Rattle.device.specs.Media.{anded, any_pair, unequal}
use Rattle.basics.proofs.Overwrites.{over-more, over-next, over-all}
use Rattle.device.proofs.Pairs.{any-more, any-all}
use Rattle.device.proofs.Cells.{length-anded, get_or-anded}
use Rattle.device.proofs.and_cells.Goals as goal

pub loop-i-init : goal.loop-i-init
unfolding any_pair
loop-i-init c = search rules

pub loop-i-preserved : goal.loop-i-preserved
loop-i-preserved c =
    let old = c.args.cells.now in
    let src = c.args.src.now in
    let new = anded old src in
    let i = c.loop-i.i in
    let k : i < length src = c.loop-i-test.true in
    let h : i < length old = omega arith in
    let n : i < length new = rw (length-anded old src c.requires) h in
    let cell : get_or c.loop-i.cells i 0 ≡ get_or old i 0 = rw c.loop-i.invariant.1 (over-next new old i 0 n h) in
    let next : bit_and (get_or c.loop-i.cells i 0) (get_or src i 0) ≡ get_or new i 0 = rw cell (sym (get_or-anded old src i h k)) in (
      simp length-set c.loop-i.invariant.0,
      over-more new old c.loop-i.cells i (bit_and (get_or c.loop-i.cells i 0) (get_or src i 0)) 0 n h c.loop-i.invariant.1 next,
      ap₂ (λ (b c : Bool). b || c) c.loop-i.invariant.2 (ap₂ unequal cell next) ∙ sym (any-more unequal old new i h n),
    )

pub returns : goal.returns
returns c =
    let old = c.args.cells.now in
    let src = c.args.src.now in
    let new = anded old src in
    let i = c.loop-i.i in
    let l : length new ≡ length old = length-anded old src c.requires in
    let cells : c.loop-i.cells ≡ new = c.loop-i.invariant.1 ∙ over-all new old i (omega arith) (omega arith) in
    let flag : c.loop-i.changed ≡ any_pair unequal old new = c.loop-i.invariant.2 ∙ any-all unequal old new i (omega arith) (omega arith) in
    cc
