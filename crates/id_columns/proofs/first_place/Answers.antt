-- `id_columns::first_place` meets its contract: nothing before the place is the id. Assumes nothing.
use Rattle.std.proofs.Common.{rules}
use Rattle.id_columns.proofs.Blocks.{passed-more, place_found, place_none}
use Rattle.id_columns.proofs.first_place.Goals as goal

pub returns-then-column-at : goal.returns-then-column-at
returns-then-column-at c = search (rules, place_found)

pub loop-at-preserved : goal.loop-at-preserved
loop-at-preserved c = search (rules, passed-more)

pub returns : goal.returns
returns c = search (rules, place_none)
