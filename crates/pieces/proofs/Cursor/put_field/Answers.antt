-- `pieces::Cursor::put_field` meets its contract. Assumes nothing.
use Rattle.pieces.proofs.Cursors.{two-pieces}
use Rattle.pieces.proofs.Cursor.put_field.Goals as goal

pub returns-clause-put : goal.returns-clause-put
returns-clause-put c = two-pieces _ _ _ _ _ c.put_byte.ensures.put c.put_number.ensures.put
