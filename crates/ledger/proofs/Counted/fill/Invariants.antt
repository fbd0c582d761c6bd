-- `ledger::Counted::fill` meets its contract: what is left to be entered, entered here, gives what all of it gives at the start. Assumes nothing.
use mathlib.Core.Path.{◌≡◌}
use Prim.Native.Nat.{◌≤◌}
use lib.ListN.{drop}
use Rattle.model.specs.Lent.{SameLedger}
use Rattle.ledger.specs.Ledger.{entered_in}
use Rattle.ledger.specs.Scans.{filled, fill_from}
use Rattle.ledger.proofs.Counted.fill.Given as goal

abbrev pub invariant-loop-at : goal.invariant-loop-at
invariant-loop-at l = record {
  few : l.n ≤ l.at;
  same : SameLedger l.initial.entries l.entries;
  rest : fill_from l.self.facts l.self.kinds.now l.self.changed.now (drop l.at l.self.marks.codes.now) (drop l.at l.self.marks.ids.now) (drop l.at l.self.marks.places.now) (filled l.n (entered_in l.entries))
      ≡ fill_from l.self.facts l.self.kinds.now l.self.changed.now l.self.marks.codes.now l.self.marks.ids.now l.self.marks.places.now (filled 0 (entered_in l.initial.entries));
}
