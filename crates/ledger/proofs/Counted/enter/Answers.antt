-- `ledger::Counted::enter` meets its contract: an end leaves the columns, a begin is stored in each. Assumes nothing.
use lib.ListN.{length, drop, get_or}
use Prim.Native.Nat.{◌+◌}
use Rattle.ledger.specs.Scans.{next_of}
use Rattle.ledger.proofs.Storing.{enter_one}
use Rattle.ledger.proofs.Counted.enter.Goals as goal

pub returns-clause-left : goal.returns-clause-left
returns-clause-left c =
    let s = c.args.self.now in
    let e = c.args.entries.now in
    enter_one s.facts s.kinds.now s.changed.now (get_or s.marks.places.now c.args.at 0) (next_of (length s.kinds.now) (drop (c.args.at + 1) s.marks.places.now))
    (get_or s.marks.codes.now c.args.at 0) (get_or s.marks.ids.now c.args.at 0) c.args.n e.ids.now e.states.now e.torn.now
    c.if-self-at-ne1.false _ c.next_place-to.ensures _ c.entry_at-entry.ensures _ _ _ c.store.ensures c.store-2.ensures c.store-3.ensures
