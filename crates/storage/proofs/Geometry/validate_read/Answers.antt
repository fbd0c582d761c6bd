-- `storage::Geometry::validate_read` meets its contract: the read unit of a geometry that passes has one bit set. Assumes nothing.
use Rattle.storage.proofs.Checks.{read-unit}
use Rattle.storage.proofs.Geometry.validate_read.Goals as goal

pub validate-requires : goal.validate-requires
validate-requires c = read-unit c.args.self
