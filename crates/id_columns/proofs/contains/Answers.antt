-- `id_columns::contains` meets its contract: no block before the place has the id. Assumes nothing.
use Rattle.id_columns.proofs.Blocks.{rest-is}
use Rattle.id_columns.proofs.contains.Goals as goal

pub returns : goal.returns
returns c = rest-is c.args.column.now c.args.id c.skip-start.result c.any_is.result c.any_is.ensures c.skip-start.ensures.passed
