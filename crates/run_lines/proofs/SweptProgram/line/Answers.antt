-- `sweep`'s line of a run meets its contract: that of its ledger. Assumes nothing.
use Rattle.run_lines.proofs.Parts.{swept-way}
use Rattle.run_lines.proofs.SweptProgram.line.Goals as goal

pub returns-clause-put : goal.returns-clause-put
returns-clause-put c = swept-way _ _ _ _ _ _ _ _ _ _ c.sweep_line.ensures.put
