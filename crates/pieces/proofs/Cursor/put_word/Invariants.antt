-- `pieces::Cursor::put_word` meets its contract: the bytes from the turn's own on are still to be written. Assumes nothing.
use mathlib.Core.Path.{◌≡◌}
use lib.ListN.{drop}
use Rattle.pieces.specs.Pieces.{after_all, letters}
use Rattle.pieces.specs.Cursors.{cursor_in, SameOut}
use Rattle.pieces.proofs.Cursor.put_word.Given as goal

abbrev pub invariant-loop-byte : goal.invariant-loop-byte
invariant-loop-byte l =
    SameOut l.initial.self l.self
    × (after_all (letters l.word) (cursor_in l.initial.self) ≡ after_all (letters (drop l.byte-index l.word)) (cursor_in l.self))
