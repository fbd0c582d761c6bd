-- Document 01, "storage.rs (308), geometry": which four units describe a device.
-- Definitions only; assumes nothing.
use Rattle.std.specs.Prelude.{Bool, not, ◌||◌, [], ◌∷◌, ℕ, ◌%◌, eqb, ltb}
use Rattle.std.specs.Int.Count.{ones}
use Rattle.basics.specs.Tests.{refuse_if, first_of}
use Rattle.storage.specs.declared.Geometry.{Geometry}

-- "Capacity and erase, program and read units, all u32."
abbrev pub geometry_of : (capacity erase program read : ℕ) → Geometry
geometry_of capacity erase program read =
    record { capacity = capacity; erase_size = erase; program_size = program; read_size = read }

-- "any of the four zero, 1"
abbrev pub any_zero : Geometry → Bool
any_zero g = eqb g.capacity 0 || eqb g.erase_size 0 || eqb g.program_size 0 || eqb g.read_size 0

-- "A unit is a power of two exactly if just one bit is set." (`one-bit` in proofs/Powers.antt: exactly if it is 2 ^ k for a k)
abbrev pub one_bit : ℕ → Bool
one_bit unit = eqb (ones unit) 1

-- "a unit that is no power of two, 2"
abbrev pub no_power_of_two : Geometry → Bool
no_power_of_two g = not (one_bit g.erase_size) || not (one_bit g.program_size) || not (one_bit g.read_size)

-- "capacity no multiple of the erase unit, erase below program, or program below read, 3"
abbrev pub unnested : Geometry → Bool
unnested g =
    not (eqb (g.capacity % g.erase_size) 0)
    || ltb g.erase_size g.program_size
    || ltb g.program_size g.read_size

-- "Checks in order": the number that refuses a geometry, or 0
unfoldable pub geometry_test : Geometry → ℕ
geometry_test g = first_of (refuse_if (any_zero g) 1 ∷ refuse_if (no_power_of_two g) 2 ∷ refuse_if (unnested g) 3 ∷ [])
