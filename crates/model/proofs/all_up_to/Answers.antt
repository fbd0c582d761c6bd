-- `model::all_up_to` meets its contract: the flag and the codes not yet read say together what the whole column says. Assumes nothing.
use Rattle.std.proofs.Common.{rules}
use Rattle.model.proofs.Codes.{codes_next, codes_end}
use Rattle.model.proofs.all_up_to.Goals as goal

pub loop-code-preserved : goal.loop-code-preserved
loop-code-preserved c = search (rules, codes_next)

pub returns : goal.returns
returns c = search (rules, codes_end)
