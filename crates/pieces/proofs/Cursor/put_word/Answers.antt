-- `pieces::Cursor::put_word` meets its contract: the bytes from the turn's own on are still to be written. Assumes nothing.
use mathlib.Core.Path.{◌∙◌}
use Rattle.pieces.proofs.Cursors.{word-put, word-put-end}
use Rattle.pieces.proofs.Cursor.put_word.Goals as goal

pub loop-byte-preserved : goal.loop-byte-preserved
loop-byte-preserved c =
    (c.put_byte.ensures.same ∙ c.loop-byte.invariant.0, word-put _ _ _ _ _ c.loop-byte.invariant.1 c.loop-byte-test.true c.put_byte.ensures.put)

pub returns-clause-put : goal.returns-clause-put
returns-clause-put c = word-put-end _ _ _ _ c.loop-byte.invariant.1 c.loop-byte-test.false
