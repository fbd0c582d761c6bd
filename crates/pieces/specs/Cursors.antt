-- The code's cursor: what it is as one of `Pieces`, and that its buffer is still the one that was lent.
-- Definitions only; assumes nothing.
use Rattle.std.specs.Prelude.{◌≡◌}
use Rattle.pieces.specs.declared.Cursor.{Cursor as Lent}
use Rattle.pieces.specs.Pieces.{Cursor, cursor}

abbrev pub cursor_in : Lent → Cursor
cursor_in c = cursor c.at c.out.now

abbrev pub SameOut : (old new : Lent) → Type 0
SameOut old new = new.out.ghost_name ≡ old.out.ghost_name
