-- `script::check_lines` meets its contract. The loop has counted `calls` calls and `bytes` bytes; the first line that it has not
-- read is line `calls + 2`. Assumes nothing.
use borrow.Author.Rules.{rules}
use Rattle.script.proofs.Passes.{passes}
use Rattle.script.proofs.check_lines.Goals as goal

pub returns-in_default : goal.returns-in_default
returns-in_default c = search (rules, passes)

pub loop-at-preserved : goal.loop-at-preserved
loop-at-preserved c = search (rules, passes)

pub returns : goal.returns
returns c = search (rules, passes)
