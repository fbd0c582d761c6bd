-- `sweep_heads::put_point` meets its contract, with an injection and without. Assumes nothing.
use Rattle.pieces.specs.Pieces.{tabbed}
use Rattle.pieces.proofs.Cursors.{joint}
use Rattle.sweep_heads.proofs.put_point.Goals as goal

pub returns-in-None-clause-put : goal.returns-in-None-clause-put
unfolding tabbed
returns-in-None-clause-put c =
    rw c.in-None.is
    (joint _ _ _ _ _ (joint _ _ _ _ _ c.put_letter.ensures.put c.put_letter-in-None.ensures.put) c.put_letter-in-None-2.ensures.put)

pub returns-in-Some-clause-put : goal.returns-in-Some-clause-put
unfolding tabbed
returns-in-Some-clause-put c =
    rw (c.in-Some.is, ← c.letter_of.ensures)
    (joint _ _ _ _ _ (joint _ _ _ _ _ c.put_letter-in-Some.ensures.put c.put_field.ensures.put) c.put_progress.ensures.put)
