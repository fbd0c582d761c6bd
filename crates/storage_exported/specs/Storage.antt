-- The layer `storage` with its answers as numbers. Definitions only; assumes nothing.
use Rattle.std.specs.Prelude.{cond, List, ℕ, ◌/◌, eqb, set}
use Rattle.storage.specs.declared.Geometry.{Geometry}
use Rattle.storage.specs.Geometry.{geometry_test}

-- the four units in the first four places
abbrev pub units_in : Geometry → List ℕ → List ℕ
units_in g kept = set (set (set (set kept 0 g.capacity) 1 g.erase_size) 2 g.program_size) 3 g.read_size

-- a geometry that is not refused has its units kept
abbrev pub kept_of : Geometry → List ℕ → List ℕ
kept_of g kept = cond (eqb (geometry_test g) 0) (units_in g kept) kept

-- a geometry that is not refused has its number of erase blocks put over what stood there
abbrev pub blocks_over : Geometry → ℕ → ℕ
blocks_over g old = cond (eqb (geometry_test g) 0) (g.capacity / g.erase_size) old
