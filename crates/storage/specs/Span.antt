-- Document 01, "storage.rs (308), geometry": which spans a call may name.
-- Definitions only; assumes nothing.
use Rattle.std.specs.Prelude.{◌&&◌, [], ◌∷◌, ℕ, ◌+◌, ◌%◌, ◌^◌, eqb, leb, ltb}
use Rattle.basics.specs.Tests.{unless, first_of}
use Rattle.storage.specs.declared.Geometry.{Geometry}
use Rattle.storage.specs.Geometry.{geometry_test}

-- "A span is checked for offset (4), then length (5), against its call's unit, then for an end that overflows u32 or passes capacity (6)."
-- A geometry that describes no device refuses with its own number first: "the lowest number comes first".
unfoldable pub span_test : Geometry → (unit offset len : ℕ) → ℕ
span_test g unit offset len =
    first_of
    (geometry_test g
    ∷ unless (eqb (offset % unit) 0) 4
    ∷ unless (eqb (len % unit) 0) 5
    ∷ unless (ltb (offset + len) (2 ^ 32) && leb (offset + len) g.capacity) 6
    ∷ [])

-- "against its call's unit"
abbrev pub read_test : Geometry → (offset len : ℕ) → ℕ
read_test g offset len = span_test g g.read_size offset len

abbrev pub program_test : Geometry → (offset len : ℕ) → ℕ
program_test g offset len = span_test g g.program_size offset len

abbrev pub erase_test : Geometry → (offset len : ℕ) → ℕ
erase_test g offset len = span_test g g.erase_size offset len
