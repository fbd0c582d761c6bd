-- `ledger::outstanding` meets its contract: it asks of the part that lies in the media. Assumes nothing.
use Rattle.ledger.proofs.Withheld.{out-past, out-part}
use Rattle.ledger.proofs.outstanding.Goals as goal

pub returns-then-media-start : goal.returns-then-media-start
returns-then-media-start c = out-past _ _ _ c.if-media-start.true

pub returns : goal.returns
returns c =
    out-part c.args.counters c.args.media.now c.args.copy.now c.requires c.if-media-start.false _
    c.lower-len.ensures.0 _ c.differs_from.ensures
