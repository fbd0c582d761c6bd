-- `records::last_barrier` meets its contract: the last one among the operations read, and those not yet read. Assumes nothing.
use mathlib.Core.Path.{◌≡◌}
use lib.ListN.{take, drop}
use Rattle.std.specs.Iterator.Adapters.{zip_first, zip_second}
use Rattle.std.specs.Slice.Iter.{iter_rest}
use Rattle.records.specs.Columns.{last_place, yes, ordering}
use Rattle.records.proofs.last_barrier.Given as goal

abbrev pub invariant-loop-at : goal.invariant-loop-at
invariant-loop-at l =
    (l.last ≡ last_place yes (take l.at-iterator.count (ordering l.kinds l.answered)))
    × (drop l.at-iterator.count (ordering l.kinds l.answered) ≡ ordering (iter_rest (zip_first l.at-iterator.iter)) (iter_rest (zip_second l.at-iterator.iter)))
