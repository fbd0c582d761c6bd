-- `ids_by_state::count` meets its contract: what is counted and what is still to be counted make up the whole. Assumes nothing.
use mathlib.Core.Path.{◌≡◌}
use Prim.Native.Nat.{◌+◌, ◌≤◌}
use lib.ListN.{length}
use Rattle.model.specs.Columns.{ledger_of}
use Rattle.ids_by_state.specs.Answers.{picked_ids}
use Rattle.ids_by_state.proofs.Rows.{ids_left}
use Rattle.ids_by_state.proofs.count.Given as goal

abbrev pub invariant-loop-i : goal.invariant-loop-i
invariant-loop-i g l =
    (l.n ≤ l.i)
    × (length (picked_ids g.T.Pick.picks (ledger_of l.ledger.ids.now l.ledger.states.now l.ledger.torn.now))
    ≡ l.n + length (ids_left g.T.Pick.picks l.ledger.ids.now l.ledger.states.now l.ledger.torn.now l.i))
