-- `lines::put_ids` meets its contract: the ids from the turn's own on are still to be written. Assumes nothing.
use mathlib.Core.Path.{◌≡◌}
use mathlib.Core.List.{map}
use lib.ListN.{drop}
use Rattle.text.specs.Numbers.{decimal_of}
use Rattle.pieces.specs.Pieces.{after_all, tabbed}
use Rattle.pieces.specs.Cursors.{cursor_in, SameOut}
use Rattle.lines.proofs.put_ids.Given as goal

abbrev pub invariant-loop-id : goal.invariant-loop-id
invariant-loop-id l =
    SameOut l.initial.to l.to
    × (after_all (tabbed (map decimal_of l.ids)) (cursor_in l.initial.to) ≡ after_all (tabbed (map decimal_of (drop l.id-index l.ids))) (cursor_in l.to))
