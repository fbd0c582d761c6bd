-- `device::any_written` meets its contract: `found` says whether one of the cells passed is not erased. Assumes nothing.
use mathlib.Core.Path.{◌≡◌, sym, ap₂, ◌∙◌}
use mathlib.Core.Bool.{Bool, ◌||◌}
use Prim.Native.Nat.{ℕ, ◌<◌}
use lib.ListN.{length, get_or, replicate, length-replicate, get_or-replicate}
use borrow.Author.Rules.{rules}
use Rattle.device.specs.Media.{ff, any_pair, unequal}
use Rattle.device.proofs.Pairs.{any-more, any-all}
use Rattle.device.proofs.any_written.Goals as goal

pub loop-cell-init : goal.loop-cell-init
unfolding any_pair
loop-cell-init c = search rules

pub loop-cell-preserved : goal.loop-cell-preserved
loop-cell-preserved c =
    let xs = c.args.cells.now in
    let ys = replicate (length xs) ff in
    let i = c.loop-cell.cell-index in
    let h : i < length xs = c.loop-cell-test.true in
    let y : ff ≡ get_or ys i 0 = sym (get_or-replicate (length xs) i ff 0 h) in
    ap₂ (λ (b : Bool) (z : ℕ). b || unequal (get_or xs i 0) z) c.loop-cell.invariant y ∙ sym (any-more unequal xs ys i h (rw length-replicate h))

pub returns : goal.returns
returns c = let xs = c.args.cells.now in
    c.loop-cell.invariant ∙ any-all unequal xs (replicate (length xs) ff) c.loop-cell.cell-index c.loop-cell-test.false (rw length-replicate c.loop-cell-test.false)
