-- The geometry check, test by test: what each way out of `Geometry::check` answers, and what a geometry that passes satisfies.
-- Assumes nothing.
use mathlib.Core.Path.{◌≡◌, refl, ◌∙◌}
use mathlib.Core.Bool.{Bool, true, false, not, ◌||◌}
use mathlib.Core.List.{[], ◌∷◌}
use Prim.Native.Nat.{ℕ, ◌%◌, ◌≤◌, ◌<◌}
use native.Mathlib.Nat.{pos_of_ne-zero}
use lib.Dec.{eqb, ltb}
use lib.Count.{ones}
use borrow.Author.Tests.{eqb-true, eqb-false, ltb-false, not-false, eq-eqb, ne_eqb}
use Rattle.basics.specs.Tests.{refuse_if, first_of}
use Rattle.basics.proofs.Tests.{refuse-zero, first_of-zero}
use Rattle.storage.specs.declared.Geometry.{Geometry}
use Rattle.storage.specs.Geometry.{any_zero, one_bit, no_power_of_two, unnested, geometry_test}
use Rattle.storage.specs.Span.{span_test}

-- ---- each way out of the check

module _ (g : Geometry) where
  pub refused-zero : any_zero g ≡ true → geometry_test g ≡ 1
  unfolding geometry_test first_of refuse_if
  refused-zero z = simp z

  pub refused-power : any_zero g ≡ false → no_power_of_two g ≡ true → geometry_test g ≡ 2
  unfolding geometry_test first_of refuse_if
  refused-power z p = simp (z, p)

  pub refused-nesting : any_zero g ≡ false → no_power_of_two g ≡ false → unnested g ≡ true → geometry_test g ≡ 3
  unfolding geometry_test first_of refuse_if
  refused-nesting z p n = simp (z, p, n)

  pub accepted : any_zero g ≡ false → no_power_of_two g ≡ false → unnested g ≡ false → geometry_test g ≡ 0
  unfolding geometry_test first_of refuse_if
  accepted z p n = simp (z, p, n)

-- a geometry that is refused has its number told, whatever else is asked
pub span-refused : (g : Geometry) (unit offset len n : ℕ) → (n ≡ 0 → ⊥) → n ≡ geometry_test g → n ≡ span_test g unit offset len
unfolding span_test first_of
span-refused g unit offset len n h told = told ∙ simp (ne_eqb (geometry_test g) 0 (λ z. h (told ∙ z)))

-- ---- what a geometry that passes satisfies

-- where none of three faults is there, each is absent
pub none-of-three : (a b c : Bool) → (a || b || c) ≡ false → (a ≡ false) × (b ≡ false) × (c ≡ false)
none-of-three true b c e = let z : true ≡ false = e in (z, cc, cc)
none-of-three false true c e = let z : true ≡ false = e in (refl, z, cc)
none-of-three false false c e = (refl, refl, e)

first-of-two : (a b : Bool) → (a || b) ≡ false → a ≡ false
first-of-two true b e = e
first-of-two false b e = refl

-- "capacity is whole erase blocks, an erase block is whole program units, and a program unit is whole read units"
pub record Nests (g : Geometry) : Type 0 where
  pub capacity-pos : 0 < g.capacity
  pub erase-one : ones g.erase_size ≡ 1
  pub program-one : ones g.program_size ≡ 1
  pub read_one : ones g.read_size ≡ 1
  pub whole-blocks : g.capacity % g.erase_size ≡ 0
  pub program-in-erase : g.program_size ≤ g.erase_size
  pub read-in-program : g.read_size ≤ g.program_size

nests-by : (g : Geometry) → any_zero g ≡ false → no_power_of_two g ≡ false → unnested g ≡ false → Nests g
nests-by g z p n =
    let cap = eqb g.capacity 0 in
    let e = eqb g.erase_size 0 in
    let q = eqb g.program_size 0 in
    let above = first-of-two (cap || e || q) (eqb g.read_size 0) z in
    let zeros = none-of-three cap e q above in
    let ones-each = none-of-three (not (one_bit g.erase_size)) (not (one_bit g.program_size)) (not (one_bit g.read_size)) p in
    let nesting = none-of-three (not (eqb (g.capacity % g.erase_size) 0)) (ltb g.erase_size g.program_size) (ltb g.program_size g.read_size) n in
    record {
      capacity-pos = pos_of_ne-zero (eqb-false g.capacity 0 zeros.0);
      erase-one = eqb-true (ones g.erase_size) 1 (not-false (one_bit g.erase_size) ones-each.0);
      program-one = eqb-true (ones g.program_size) 1 (not-false (one_bit g.program_size) ones-each.1);
      read_one = eqb-true (ones g.read_size) 1 (not-false (one_bit g.read_size) ones-each.2);
      whole-blocks = eqb-true (g.capacity % g.erase_size) 0 (not-false (eqb (g.capacity % g.erase_size) 0) nesting.0);
      program-in-erase = ltb-false g.erase_size g.program_size nesting.1;
      read-in-program = ltb-false g.program_size g.read_size nesting.2;
    }

pub nests : (g : Geometry) → geometry_test g ≡ 0 → Nests g
unfolding geometry_test
nests g e =
    let one = first_of-zero (refuse_if (any_zero g) 1) (refuse_if (no_power_of_two g) 2 ∷ refuse_if (unnested g) 3 ∷ []) e in
    let two = first_of-zero (refuse_if (no_power_of_two g) 2) (refuse_if (unnested g) 3 ∷ []) one.1 in
    let three = first_of-zero (refuse_if (unnested g) 3) [] two.1 in
    nests-by g (refuse-zero (any_zero g) 0 one.0) (refuse-zero (no_power_of_two g) 1 two.0) (refuse-zero (unnested g) 2 three.0)

-- each unit is one that a mask tells the multiples of
pub read-unit : (g : Geometry) → geometry_test g ≡ 0 → one_bit g.read_size ≡ true
read-unit g e = eq-eqb (ones g.read_size) 1 (nests g e).read_one

pub program-unit : (g : Geometry) → geometry_test g ≡ 0 → one_bit g.program_size ≡ true
program-unit g e = eq-eqb (ones g.program_size) 1 (nests g e).program-one

pub erase-unit : (g : Geometry) → geometry_test g ≡ 0 → one_bit g.erase_size ≡ true
erase-unit g e = eq-eqb (ones g.erase_size) 1 (nests g e).erase-one
