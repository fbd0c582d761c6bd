-- `storage::Geometry::validate_program` meets its contract: the program unit of a geometry that passes has one bit set. Assumes nothing.
use Rattle.storage.proofs.Checks.{program-unit}
use Rattle.storage.proofs.Geometry.validate_program.Goals as goal

pub validate-requires : goal.validate-requires
validate-requires c = program-unit c.args.self
