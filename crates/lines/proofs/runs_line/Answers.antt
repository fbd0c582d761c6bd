-- `lines::runs_line` meets its contract. Assumes nothing.
use Rattle.lines.proofs.Ways.{runs-short, runs_done}
use Rattle.lines.proofs.runs_line.Goals as goal

pub returns-then-not-fits-clause-put : goal.returns-then-not-fits-clause-put
returns-then-not-fits-clause-put c =
    let to = c.args.to.now in
    runs-short c.args.count to.at to.out.now _ c.places.ensures _ c.fits.ensures c.if-not-fits.true

pub returns-clause-put : goal.returns-clause-put
returns-clause-put c =
    let to = c.args.to.now in
    runs_done c.args.count to.at to.out.now _ c.places.ensures _ c.fits.ensures c.if-not-fits.false _ _ _ _
    c.put_word.ensures.put c.put_field.ensures.put c.put_byte.ensures.put
