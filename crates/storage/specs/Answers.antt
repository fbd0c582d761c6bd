-- What the functions answer: the paper's number of each case, and the answer with a number.
-- Definitions only; assumes nothing.
use Rattle.std.specs.Prelude.{Result, cond, ℕ, ◌/◌, eqb}
use Rattle.basics.specs.Replies.{answered}
use Rattle.storage.specs.declared.Geometry.{Geometry}
use Rattle.storage.specs.declared.GeometryError.{GeometryError}
use Rattle.storage.specs.declared.GeometryError.TheVariants.{ZeroUnit, UnitIsNotAPowerOfTwo, UnitsDoNotNest, MisalignedOffset, MisalignedLength, OutOfBounds}
use Rattle.storage.specs.Geometry.{geometry_test}

-- "Where an answer is an enum, a definition gives this paper's number .. for each of its cases."
abbrev pub number_of : GeometryError → ℕ
number_of ZeroUnit = 1
number_of UnitIsNotAPowerOfTwo = 2
number_of UnitsDoNotNest = 3
number_of MisalignedOffset = 4
number_of MisalignedLength = 5
number_of OutOfBounds = 6

-- the error with a number; `numbered` of proofs/Numbers.antt: `number_of (error_of n)` is n for each n from 1 to 6
abbrev pub error_of : ℕ → GeometryError
error_of n =
    cond (eqb n 1) ZeroUnit
    (cond (eqb n 2) UnitIsNotAPowerOfTwo
    (cond (eqb n 3) UnitsDoNotNest
    (cond (eqb n 4) MisalignedOffset
    (cond (eqb n 5) MisalignedLength
    OutOfBounds))))

-- `Geometry::new`: the geometry, or the number that refuses it
abbrev pub described : Geometry → Result Geometry ℕ
described g = answered (geometry_test g) g

-- how many erase blocks the capacity holds, or the geometry's number
abbrev pub blocks_of : Geometry → Result ℕ ℕ
blocks_of g = answered (geometry_test g) (g.capacity / g.erase_size)
