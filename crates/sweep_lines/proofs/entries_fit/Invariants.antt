-- `sweep_lines::entries_fit` meets its contract: the fields of the rows not yet read are to fit into what is left. Assumes nothing.
use mathlib.Core.Path.{◌≡◌}
use mathlib.Core.List.{flatten}
use Prim.Native.Nat.{◌+◌}
use lib.ListN.{length}
use lib.Dec.{leb}
use Rattle.std.specs.Iterator.Adapters.{zip_first, zip_second}
use Rattle.std.specs.Slice.Iter.{iter_rest}
use Rattle.model.specs.Columns.{ledger_of}
use Rattle.sweep_lines.specs.Fields.{ledger_pieces}
use Rattle.sweep_lines.proofs.entries_fit.Given as goal

abbrev pub invariant-loop-id : goal.invariant-loop-id
invariant-loop-id l =
    (goal.iterator-loop-id).can_next l.id-iterator
    × (goal.iterator-loop-id).is_finite l.id-iterator
    × (leb (l.at + l.size + length (flatten (ledger_pieces (ledger_of l.ledger.ids.now l.ledger.states.now l.ledger.torn.now)))) l.room
    ≡ leb (length (flatten (ledger_pieces (ledger_of (iter_rest (zip_first (zip_first l.id-iterator))) (iter_rest (zip_second (zip_first l.id-iterator))) (iter_rest (zip_second l.id-iterator)))))) l.left)
