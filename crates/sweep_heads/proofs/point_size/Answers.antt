-- `sweep_heads::point_size` meets its contract. Assumes nothing.
use Rattle.sweep_heads.proofs.Sizes.{none-few, point-few}
use Rattle.sweep_heads.proofs.point_size.Goals as goal

pub returns-in-None : goal.returns-in-None
returns-in-None c = rw c.in-None.is none-few

pub returns-in-Some : goal.returns-in-Some
returns-in-Some c = rw c.in-Some.is (point-few c.in-Some.injection _ _ c.places.ensures c.progress_size.ensures)
