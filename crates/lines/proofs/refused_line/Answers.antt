-- `lines::refused_line` meets its contract. Assumes nothing.
use Rattle.lines.proofs.Ways.{refused-short, refused-done}
use Rattle.lines.proofs.refused_line.Goals as goal

pub returns-then-not-fits-clause-put : goal.returns-then-not-fits-clause-put
returns-then-not-fits-clause-put c =
    let a = c.args in
    refused-short a.number a.line a.to.now.at a.to.now.out.now _ _ c.places.ensures c.places-2.ensures _ c.fits.ensures c.if-not-fits.true

pub returns-clause-put : goal.returns-clause-put
returns-clause-put c =
    let a = c.args in
    refused-done a.number a.line a.to.now.at a.to.now.out.now _ _ c.places.ensures c.places-2.ensures _ c.fits.ensures c.if-not-fits.false
    _ _ _ _ _ c.put_word.ensures.put c.put_field.ensures.put c.put_field-2.ensures.put c.put_byte.ensures.put
