-- `lines::ids_fit` meets its contract: the fields of the ids from the turn's own on are to fit into what is left. Assumes nothing.
use mathlib.Core.Path.{◌≡◌}
use mathlib.Core.List.{flatten, map}
use Prim.Native.Nat.{◌+◌}
use lib.ListN.{length, drop}
use lib.Dec.{leb}
use Rattle.text.specs.Numbers.{decimal_of}
use Rattle.pieces.specs.Pieces.{tabbed}
use Rattle.lines.proofs.ids_fit.Given as goal

abbrev pub invariant-loop-id : goal.invariant-loop-id
invariant-loop-id l =
    leb (l.at + l.size + length (flatten (tabbed (map decimal_of l.ids)))) l.room
    ≡ leb (length (flatten (tabbed (map decimal_of (drop l.id-index l.ids))))) l.left
