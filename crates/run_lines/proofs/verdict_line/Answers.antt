-- `run_lines::verdict_line` meets its contract: the verdict's number, and the history behind it. Assumes nothing.
use Rattle.run_lines.proofs.Parts.{verdict-line}
use Rattle.run_lines.proofs.verdict_line.Goals as goal

pub returns-clause-put : goal.returns-clause-put
returns-clause-put c =
    let l = c.args.ledger.now in
    verdict-line c.args.place l.ids.now l.states.now l.torn.now c.args.to.now.at c.args.to.now.out.now c.args.history.now _ c.verify_recovery-verdict.ensures _ c.number_in.ensures _ c.judge_line.ensures.put
