-- `ids_by_state::fill` meets its contract: n ids are written over the column's front, and the rows from i on have the others.
-- Assumes nothing.
use mathlib.Core.Path.{◌≡◌}
use mathlib.Core.List.{◌++◌}
use Prim.Native.Nat.{◌≤◌}
use lib.ListN.{length, take, drop}
use Rattle.model.specs.Columns.{ledger_of}
use Rattle.ids_by_state.specs.Answers.{picked_ids}
use Rattle.ids_by_state.proofs.Rows.{ids_left}
use Rattle.ids_by_state.proofs.fill.Given as goal

abbrev pub invariant-loop-i : goal.invariant-loop-i
invariant-loop-i g l =
    let new = picked_ids g.T.Pick.picks (ledger_of l.ledger.ids.now l.ledger.states.now l.ledger.torn.now) in
    (l.n ≤ length new)
    × (length l.column ≡ length l.initial.column)
    × (l.column ≡ take l.n new ++ drop l.n l.initial.column)
    × (drop l.n new ≡ ids_left g.T.Pick.picks l.ledger.ids.now l.ledger.states.now l.ledger.torn.now l.i)
