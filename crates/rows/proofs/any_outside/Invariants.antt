-- `rows::any_outside` meets its contract: what was found and what the rows not yet read say, the columns say. Assumes nothing.
use mathlib.Core.Path.{◌≡◌}
use mathlib.Core.Bool.{◌||◌}
use lib.ListN.{drop}
use Rattle.rows.specs.Rows.{any_outside}
use Rattle.rows.proofs.any_outside.Given as goal

abbrev pub invariant-loop-i : goal.invariant-loop-i
invariant-loop-i l =
    any_outside l.pool l.kinds l.lens l.starts ≡ (l.outside || any_outside l.pool (drop l.i l.kinds) (drop l.i l.lens) (drop l.i l.starts))
