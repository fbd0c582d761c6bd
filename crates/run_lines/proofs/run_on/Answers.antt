-- `run_lines::run_on` meets its contract: every part lent is there. Assumes nothing.
use native.Mathlib.Omega.{arith}
use Rattle.ledger.specs.Ledger.{entered_of}
use Rattle.script.specs.Lent.{columns_seen}
use Rattle.run_lines.proofs.Parts.{on-part}
use Rattle.run_lines.proofs.run_on.Goals as goal

pub returns : goal.returns
returns c =
    let w = c.args.writer.now in
    on-part w.head c.args.armed w.rows (columns_seen w.calls) c.args.media.now c.args.copy.now (entered_of c.args.entries.now.ids c.args.entries.now.states c.args.entries.now.torn) (omega arith) (omega arith) _ c.lower-capacity.ensures.0 _ _ _ _ _ _ _ c.run_logged.ensures
