-- `storage::Geometry::validate_erase` meets its contract: the erase unit of a geometry that passes has one bit set. Assumes nothing.
use Rattle.storage.proofs.Checks.{erase-unit}
use Rattle.storage.proofs.Geometry.validate_erase.Goals as goal

pub validate-requires : goal.validate-requires
validate-requires c = erase-unit c.args.self
