-- `device::slice_is_erased` meets its contract: the cells before `i` are all erased, so some cell is not exactly if one from `i` on is not.
-- Assumes nothing.
use mathlib.Core.Path.{sym, ap, ◌∙◌}
use mathlib.Core.Bool.{not}
use Rattle.device.proofs.Pairs.{found, passed, fill-block}
use borrow.Author.Rules.{rules}
use Rattle.device.proofs.slice_is_erased.Goals as goal

pub returns-then-any_written : goal.returns-then-any_written
returns-then-any_written c =
    let cells = c.args.cells.now in
    sym (ap not (c.loop-i.invariant.1 ∙ found _ _ _ (fill-block cells c.loop-i.i 128 _ c.any_written.ensures) c.if-any_written.true))

pub loop-i-preserved : goal.loop-i-preserved
loop-i-preserved c =
    let cells = c.args.cells.now in
    (search rules, c.loop-i.invariant.1 ∙ passed _ _ _ (fill-block cells c.loop-i.i 128 _ c.any_written.ensures) c.if-any_written.false)
