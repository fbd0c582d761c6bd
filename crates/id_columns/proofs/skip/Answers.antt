-- `id_columns::skip` meets its contract: no block that was passed has the id. Assumes nothing.
use mathlib.Core.Path.{sym, ◌∙◌}
use Rattle.std.proofs.Common.{rules}
use Rattle.id_columns.specs.Ids.{has}
use Rattle.id_columns.proofs.Blocks.{block-passed, block-found}
use Rattle.id_columns.proofs.skip.Goals as goal

pub loop-block-init : goal.loop-block-init
unfolding has
loop-block-init c = search rules

pub loop-block-preserved : goal.loop-block-preserved
loop-block-preserved c =
    let s = c.in-Some.ensures.steps in
    let i = c.loop-block.invariant in
    let t = block-passed c.args.column.now c.in-Some.block.now _ c.args.id c.loop-block.start i.0 (sym s.1.0 ∙ i.2) 32 (s.1.1 ∙ i.3) i.1 (sym c.any_is.ensures ∙ c.if-any_is.false) in
    (t.0, t.1, t.2, s.0 ∙ i.3)

pub returns-then-any_is-clause-found : goal.returns-then-any_is-clause-found
returns-then-any_is-clause-found c h =
    let s = c.in-Some.ensures.steps in
    let i = c.loop-block.invariant in
    block-found c.args.column.now c.in-Some.block.now _ c.args.id c.loop-block.start i.0 (sym s.1.0 ∙ i.2) (sym c.any_is.ensures ∙ c.if-any_is.true)
