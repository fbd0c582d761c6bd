-- `judge`'s line of a run meets its contract: that of its ledger. Assumes nothing.
use Rattle.run_lines.proofs.Parts.{judged-way}
use Rattle.run_lines.proofs.JudgedProgram.line.Goals as goal

pub returns-clause-put : goal.returns-clause-put
returns-clause-put c = judged-way _ _ _ _ _ _ _ _ _ _ c.judged_line.ensures.put
