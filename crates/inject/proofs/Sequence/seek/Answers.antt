-- `inject::Sequence::seek` meets its contract. The invariant: what is left of the place, sought from row `i` on, is the place sought in the
-- whole. Assumes nothing.
use mathlib.Core.Path.{sym, ap, ◌∙◌}
use Rattle.std.specs.Prelude.{Ok}
use Rattle.inject.specs.declared.Progress.{Progress}
use Rattle.inject.specs.Points.{point}
use Rattle.inject.specs.Steps.{sought}
use Rattle.inject.proofs.Rests.{sound, rest_in, rest-past, rest_end}
use Rattle.inject.proofs.Sequence.seek.Goals as goal

pub returns-then-left-points : goal.returns-then-left-points
returns-then-left-points c =
    let l = c.loop-i in
    ap (λ (q : Progress). Ok (point l.i c.args.cause q)) c.progress_at-progress.ensures
    ∙ sym (rest_in _ _ _ _ _ (sound c.args.self.now) _ c.loop-i-test.true _ c.group_in-group.ensures _
    (rw c.size-points.ensures.0 at c.if-left-points.true))
    ∙ l.invariant

pub loop-i-preserved : goal.loop-i-preserved
loop-i-preserved c =
    sym (rest-past _ _ _ _ _ (sound c.args.self.now) _ c.loop-i-test.true _ c.group_in-group.ensures _ _
    c.size-points.ensures.0 c.if-left-points.false)
    ∙ c.loop-i.invariant

pub returns : goal.returns
unfolding sought
returns c =
    let o = c.args.self.now.ops in
    ap (λ xs. sought xs c.loop-i.left) (sym (rest_end c.args.self.now.geometry c.args.cause c.loop-i.i o.kinds.now o.offsets.now o.lens.now c.loop-i-test.false))
    ∙ c.loop-i.invariant
