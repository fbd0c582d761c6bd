-- `ledger::Counted::derive` meets its contract: too short, or filled. Assumes nothing.
use Rattle.ledger.specs.Ledger.{entered_in}
use Rattle.ledger.proofs.Storing.{derive-short, derive-all}
use Rattle.ledger.proofs.Whole.{entries-even}
use Rattle.ledger.proofs.Counted.derive.Goals as goal

pub returns-then-short-clause-left : goal.returns-then-short-clause-left
returns-then-short-clause-left c =
    let s = c.args.self.now in
    derive-short s.facts s.kinds.now s.changed.now s.marks.codes.now s.marks.ids.now s.marks.places.now s.even.0 s.even.1 (entered_in c.args.entries.now) _ c.begins.ensures
    c.if-short.true

pub returns-clause-left : goal.returns-clause-left
returns-clause-left c =
    let s = c.args.self.now in
    let e = entries-even (entered_in c.args.entries.now) c.requires in
    derive-all s.facts s.kinds.now s.changed.now s.marks.codes.now s.marks.ids.now s.marks.places.now s.even.0 s.even.1 (entered_in c.args.entries.now) _ c.begins.ensures
    c.if-short.false e.0 e.1 _ _ c.fill.ensures.left
