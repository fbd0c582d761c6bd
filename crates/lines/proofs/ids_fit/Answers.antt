-- `lines::ids_fit` meets its contract: the fields of the ids from the turn's own on are to fit into what is left. Assumes nothing.
use mathlib.Core.List.{flatten, map}
use lib.ListN.{length}
use Rattle.text.specs.Numbers.{decimal_of}
use Rattle.pieces.specs.Pieces.{tabbed}
use Rattle.pieces.proofs.Rooms.{fit-start, fit-more, fit-out, fit-end}
use Rattle.lines.proofs.Ids.{ids-size, ids-size-end}
use Rattle.lines.proofs.ids_fit.Goals as goal

pub loop-id-init : goal.loop-id-init
loop-id-init c = fit-start c.args.size c.args.at c.args.room _ c.fits.ensures (length (flatten (tabbed (map decimal_of c.args.ids.now)))) c.if-not-fits.false

pub returns-then-left-more : goal.returns-then-left-more
returns-then-left-more c =
    fit-out _ _ _ c.loop-id.invariant _ _ (ids-size _ _ _ c.places-more.ensures c.loop-id-test.true) c.if-left-more.true

pub loop-id-preserved : goal.loop-id-preserved
loop-id-preserved c =
    fit-more _ _ _ c.loop-id.invariant _ _ (ids-size _ _ _ c.places-more.ensures c.loop-id-test.true) c.if-left-more.false

pub returns : goal.returns
returns c = fit-end _ _ _ c.loop-id.invariant (ids-size-end _ _ c.loop-id-test.false)
