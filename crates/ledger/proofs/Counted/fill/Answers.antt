-- `ledger::Counted::fill` meets its contract: what is left to be entered, entered here, gives what all of it gives at the start. Assumes nothing.
use mathlib.Core.Path.{sym, ◌∙◌}
use native.Mathlib.Omega.{arith}
use Rattle.ledger.proofs.Storing.{fill-next, fill_end}
use Rattle.ledger.proofs.Counted.fill.Goals as goal

pub loop-at-preserved : goal.loop-at-preserved
loop-at-preserved c =
    let s = c.args.self.now in
    let e = c.enter-n.ensures in
    let i = c.loop-at.invariant in
    record {
      few = omega (arith, e.more, i.few);
      same = (e.same.0 ∙ i.same.0, e.same.1 ∙ i.same.1, e.same.2 ∙ i.same.2);
      rest = sym (fill-next s.facts s.kinds.now s.changed.now s.marks.codes.now s.marks.ids.now s.marks.places.now s.even.0 s.even.1 c.loop-at.at c.loop-at-test.true _ _ e.left) ∙ i.rest;
    }

pub returns : goal.returns
returns c =
    let s = c.args.self.now in
    let i = c.loop-at.invariant in
    record {
      same = i.same;
      left = sym (fill_end s.facts s.kinds.now s.changed.now s.marks.codes.now s.marks.ids.now s.marks.places.now s.even.0 s.even.1 c.loop-at.at c.loop-at-test.false _) ∙ i.rest;
    }
