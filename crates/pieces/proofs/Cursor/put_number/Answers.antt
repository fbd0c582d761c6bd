-- `pieces::Cursor::put_number` meets its contract. Assumes nothing.
use Rattle.pieces.proofs.Cursors.{number_put, no_number}
use Rattle.pieces.proofs.Cursor.put_number.Goals as goal

pub returns-in-Some-clause-put : goal.returns-in-Some-clause-put
returns-in-Some-clause-put c = number_put _ _ _ _ _ c.print_number.ensures _ c.in-Some.is

pub returns-in_default-clause-put : goal.returns-in_default-clause-put
returns-in_default-clause-put c = no_number _ _ _ _ _ c.print_number.ensures c.in_default.is
