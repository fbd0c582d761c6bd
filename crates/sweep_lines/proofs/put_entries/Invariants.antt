-- `sweep_lines::put_entries` meets its contract: the rows not yet read are still to be written. Assumes nothing.
use mathlib.Core.Path.{◌≡◌}
use Rattle.std.specs.Iterator.Adapters.{zip_first, zip_second}
use Rattle.std.specs.Slice.Iter.{iter_rest}
use Rattle.model.specs.Columns.{ledger_of}
use Rattle.pieces.specs.Pieces.{after_all}
use Rattle.pieces.specs.Cursors.{cursor_in, SameOut}
use Rattle.sweep_lines.specs.Fields.{ledger_pieces}
use Rattle.sweep_lines.proofs.put_entries.Given as goal

abbrev pub invariant-loop-id : goal.invariant-loop-id
invariant-loop-id l =
    (goal.iterator-loop-id).can_next l.id-iterator
    × (goal.iterator-loop-id).is_finite l.id-iterator
    × SameOut l.initial.to l.to
    × (after_all (ledger_pieces (ledger_of l.ledger.ids.now l.ledger.states.now l.ledger.torn.now)) (cursor_in l.initial.to)
    ≡ after_all (ledger_pieces (ledger_of (iter_rest (zip_first (zip_first l.id-iterator))) (iter_rest (zip_second (zip_first l.id-iterator))) (iter_rest (zip_second l.id-iterator)))) (cursor_in l.to))
