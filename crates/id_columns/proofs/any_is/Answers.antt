-- `id_columns::any_is` meets its contract: the flag and the ids not yet read say together what the whole column says. Assumes nothing.
use Rattle.std.proofs.Common.{rules}
use Rattle.id_columns.proofs.Blocks.{any_next, any_end}
use Rattle.id_columns.proofs.any_is.Goals as goal

pub loop-at-preserved : goal.loop-at-preserved
loop-at-preserved c = search (rules, any_next)

pub returns : goal.returns
returns c = search (rules, any_end)
