-- `sweep_heads::head_size` meets its contract. Assumes nothing.
use Rattle.sweep_heads.proofs.Sizes.{head_few}
use Rattle.sweep_heads.proofs.head_size.Goals as goal

pub returns : goal.returns
returns c = head_few _ _ _ _ _ _ _ c.places.ensures c.point_size.ensures c.places-2.ensures
