-- `run_lines::run_line` meets its contract: a place without a run, or the line of its run. Assumes nothing.
use mathlib.Core.Path.{◌∙◌}
use Rattle.std.proofs.Common.{rules}
use Rattle.script.specs.Lent.{columns_seen}
use Rattle.run_lines.proofs.Parts.{placed-is}
use Rattle.run_lines.proofs.run_line.Goals as goal

pub returns-in_err-armed-clause-put : goal.returns-in_err-armed-clause-put
returns-in_err-armed-clause-put g c =
    let w = c.args.writer.now in
    let o = c.args.ops.now in
    let t = placed-is g.P.Program.judged c.args.place w.head w.rows (columns_seen w.calls) o.kinds.now o.offsets.now o.lens.now c.args.to.now.at c.args.to.now.out.now _ c.in_err-armed.ensures in
    search rules

pub returns-clause-put : goal.returns-clause-put
returns-clause-put g c =
    let w = c.args.writer.now in
    let o = c.args.ops.now in
    c.armed_line.ensures.put
    ∙ placed-is g.P.Program.judged c.args.place w.head w.rows (columns_seen w.calls) o.kinds.now o.offsets.now o.lens.now c.args.to.now.at c.args.to.now.out.now _ c.in_ok-armed.ensures
