-- `pieces::Cursor::put_byte` meets its contract. Assumes nothing.
use Rattle.pieces.proofs.Cursors.{byte_put, no_byte}
use Rattle.pieces.proofs.Cursor.put_byte.Goals as goal

pub returns-then-self-clause-put : goal.returns-then-self-clause-put
returns-then-self-clause-put c = byte_put _ _ _ c.if-self.true

pub returns-else-self-clause-put : goal.returns-else-self-clause-put
returns-else-self-clause-put c = no_byte _ _ _ c.if-self.false
