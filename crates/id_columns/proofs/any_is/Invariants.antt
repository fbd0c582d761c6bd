-- `id_columns::any_is` meets its contract: the flag and the ids not yet read say together what the whole column says. Assumes nothing.
use mathlib.Core.Path.{◌≡◌}
use mathlib.Core.Bool.{◌||◌}
use lib.ListN.{drop}
use Rattle.id_columns.specs.Ids.{has}
use Rattle.id_columns.proofs.any_is.Given as goal

abbrev pub invariant-loop-at : goal.invariant-loop-at
invariant-loop-at l = has l.column l.id ≡ (l.found || has (drop l.at-index l.column) l.id)
