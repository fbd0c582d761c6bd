-- `id_columns::skip` meets its contract: no block that was passed has the id. Assumes nothing.
use Rattle.std.proofs.Common.{◌≡◌, false, ◌≤◌, length, take, drop}
use Rattle.std.specs.Slice.Iter.{chunks_exact_rest, chunks_exact_size}
use Rattle.id_columns.specs.Ids.{has}
use Rattle.id_columns.proofs.skip.Given as goal

abbrev pub invariant-loop-block : goal.invariant-loop-block
invariant-loop-block l =
    (l.start ≤ length l.column)
    × (has (take l.start l.column) l.id ≡ false)
    × (chunks_exact_rest l.block-iterator ≡ drop l.start l.column)
    × (chunks_exact_size l.block-iterator ≡ 32)
