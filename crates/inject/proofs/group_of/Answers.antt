-- `inject::group_of` meets its contract: the points are those of the row's operation. Assumes nothing.
use Rattle.inject.proofs.Groups.{of_row}
use Rattle.inject.proofs.group_of.Goals as goal

pub returns : goal.returns
returns c = of_row _ _ _ _ _ c.op_of.ensures c.group.ensures
