-- `pieces::Cursor::put_letter` meets its contract. Assumes nothing.
use Rattle.pieces.proofs.Cursors.{two-pieces}
use Rattle.pieces.proofs.Cursor.put_letter.Goals as goal

pub returns-clause-put : goal.returns-clause-put
returns-clause-put c = two-pieces _ _ _ _ _ c.put_byte.ensures.put c.put_byte-2.ensures.put
