-- `records::last_barrier` meets its contract: the last one among the operations read, and those not yet read. Assumes nothing.
use mathlib.Core.Path.{sym, ap, ◌∙◌}
use mathlib.Core.Logic.{inl, inr, ⊎_elim}
use Prim.Native.Nat.{◌+◌}
use Rattle.std.proofs.Common.{rules}
use Rattle.records.specs.Columns.{last_place}
use Rattle.records.proofs.Scanning.{barrier-next, barrier-yes, barrier-no, barrier-end}
use Rattle.records.proofs.last_barrier.Goals as goal

pub loop-at-init : goal.loop-at-init
unfolding last_place
loop-at-init c = search rules

pub loop-at-preserved-then-kind-answered : goal.loop-at-preserved-then-kind-answered
loop-at-preserved-then-kind-answered c =
    let s = c.in-Some.ensures.steps in
    let t = barrier-yes _ c.loop-at.at-iterator.count _ _ (c.loop-at.invariant.1 ∙ barrier-next _ _ _ _ _ _ s.0.0 s.0.1) _ s.2 c.if-kind-answered.true in
    (ap (λ n. n + 1) s.1 ∙ sym s.2 ∙ t.0, t.1)

pub loop-at-preserved : goal.loop-at-preserved
loop-at-preserved c =
    let s = c.in-Some.ensures.steps in
    let t = barrier-no _ c.loop-at.at-iterator.count _ _ (c.loop-at.invariant.1 ∙ barrier-next _ _ _ _ _ _ s.0.0 s.0.1) _ s.2 c.if-kind-answered.false in
    (c.loop-at.invariant.0 ∙ t.0, t.1)

pub returns : goal.returns
returns c = c.loop-at.invariant.0 ∙ barrier-end _ _ _ _ c.loop-at.invariant.1 (⊎_elim (λ w. inl w.1.0) (λ w. inr w.1.0) c.in-None.ensures.steps.0)
