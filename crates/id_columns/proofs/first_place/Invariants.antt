-- `id_columns::first_place` meets its contract: nothing before the place is the id. Assumes nothing.
use mathlib.Core.Path.{◌≡◌}
use mathlib.Core.Bool.{false}
use lib.ListN.{take}
use Rattle.id_columns.specs.Ids.{has}
use Rattle.id_columns.proofs.first_place.Given as goal

abbrev pub invariant-loop-at : goal.invariant-loop-at
invariant-loop-at l = has (take l.at l.column) l.id ≡ false
