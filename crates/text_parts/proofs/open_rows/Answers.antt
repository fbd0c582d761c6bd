-- `text_parts::open_rows` meets its contract: every part lent is there, on media of zeros. Assumes nothing.
use Rattle.script.specs.Lent.{columns_seen}
use Rattle.text_parts.proofs.Steps.{open-part}
use Rattle.text_parts.proofs.open_rows.Goals as goal

pub returns : goal.returns
returns c =
    let w = c.args.writer.now in
    open-part w.head w.rows (columns_seen w.calls) c.args.recorded.now.kinds c.args.recorded.now.offsets c.args.recorded.now.lens _ c.lower-capacity.ensures.0 _ _ _ _ _ _ c.open_sweep.ensures
