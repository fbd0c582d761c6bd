-- `text_parts::swept_part` meets its contract: the part of what the fault-free run opened, by as many rows of the log as operations.
-- Assumes nothing.
use mathlib.Core.Path.{◌∙◌}
use native.Mathlib.Omega.{arith}
use Rattle.script.specs.Lent.{columns_seen}
use Rattle.text_parts.proofs.Steps.{opened-refused, recorded-is, opened-runs, swept-is}
use Rattle.text_parts.proofs.swept_part.Goals as goal

pub returns-in-Err : goal.returns-in-Err
returns-in-Err g c =
    let w = c.args.writer.now in
    let k = columns_seen w.calls in
    opened-refused g.P.Program.judged c.args.from w.head w.rows k c.args.out.now _ _ _ _ _ c.in-Err.is _ c.refused_part.ensures
    ∙ swept-is g.P.Program.judged c.args.from w.head w.rows k c.args.out.now _ _ _ _ c.open_rows.ensures

pub returns-in-Ok : goal.returns-in-Ok
returns-in-Ok g c =
    let w = c.args.writer.now in
    let k = columns_seen w.calls in
    opened-runs g.P.Program.judged c.args.from w.head w.rows k c.args.out.now _ _ _ _ _ c.in-Ok.is _
    (recorded-is g.P.Program.judged c.args.from w.head w.rows k c.args.out.now c.in-Ok.sweep.operations c.in-Ok.sweep.points _ _ _ (omega arith) (omega arith) (omega arith) _ c.lower-n.ensures.0 _ c.runs_of.ensures.0 _ _ c.runs_part.ensures)
    ∙ swept-is g.P.Program.judged c.args.from w.head w.rows k c.args.out.now _ _ _ _ c.open_rows.ensures
