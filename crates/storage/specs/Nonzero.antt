-- No error of a geometry has the number 0. Assumes nothing.
use mathlib.Core.Path.{◌≡◌}
use native.Mathlib.Nat.{suc-ne-zero}
use Rattle.storage.specs.Answers.{number_of}
use Rattle.storage.specs.declared.GeometryError.{GeometryError}
use Rattle.storage.specs.declared.GeometryError.TheVariants.{ZeroUnit, UnitIsNotAPowerOfTwo, UnitsDoNotNest, MisalignedOffset, MisalignedLength, OutOfBounds}

pub error-nonzero : (error : GeometryError) → number_of error ≡ 0 → ⊥
error-nonzero ZeroUnit z = suc-ne-zero _ z
error-nonzero UnitIsNotAPowerOfTwo z = suc-ne-zero _ z
error-nonzero UnitsDoNotNest z = suc-ne-zero _ z
error-nonzero MisalignedOffset z = suc-ne-zero _ z
error-nonzero MisalignedLength z = suc-ne-zero _ z
error-nonzero OutOfBounds z = suc-ne-zero _ z
