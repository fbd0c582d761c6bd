-- `storage::Geometry::erase_blocks` meets its contract: an erase unit with one bit set is no zero divisor. Assumes nothing.
use mathlib.Core.Path.{sym}
use Rattle.storage.proofs.Powers.{unit-pos}
use Rattle.storage.proofs.Checks.{nests}
use Rattle.storage.proofs.Geometry.erase_blocks.Goals as goal

pub nonzero_div-result : goal.nonzero_div-result
nonzero_div-result c = unit-pos _ (nests _ (sym c.in_ok-check.ensures)).erase-one
