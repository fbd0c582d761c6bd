-- `run_lines::armed_line` meets its contract: a run that is refused, or the line of its ledger, which has as many rows as it says.
-- Assumes nothing.
use mathlib.Core.Path.{◌∙◌}
use native.Mathlib.Omega.{arith}
use Rattle.std.proofs.Common.{rules}
use Rattle.script.specs.Lent.{columns_seen}
use Rattle.run_lines.proofs.Parts.{rows-line, on-zeros, armed-is}
use Rattle.run_lines.proofs.armed_line.Goals as goal

pub returns-in_err-run-clause-put : goal.returns-in_err-run-clause-put
returns-in_err-run-clause-put g c =
    let w = c.args.writer.now in
    let k = columns_seen w.calls in
    let t = armed-is g.P.Program.judged c.args.place c.args.armed w.head w.rows k c.args.to.now.at c.args.to.now.out.now _ _ (on-zeros w.head c.args.armed w.rows k _ _ c.in_err-run.ensures) in
    search rules

pub returns-clause-put : goal.returns-clause-put
returns-clause-put g c =
    let w = c.args.writer.now in
    let k = columns_seen w.calls in
    rows-line c.args.place c.args.armed _ _ _ _ _ c.args.to.now.at c.args.to.now.out.now g.P.Program.judged _ (omega arith) (omega arith) (omega arith) _ c.lower-n.ensures.0 _ c.line.ensures.put
    ∙ armed-is g.P.Program.judged c.args.place c.args.armed w.head w.rows k c.args.to.now.at c.args.to.now.out.now _ _ (on-zeros w.head c.args.armed w.rows k _ _ c.in_ok-run.ensures)
