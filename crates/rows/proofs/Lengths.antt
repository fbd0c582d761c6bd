-- The number of the lengths, from the tests in turn, and what lengths know that it does not refuse. Assumes nothing.
use mathlib.Core.Path.{◌≡◌, sym, ◌∙◌}
use mathlib.Core.Bool.{Bool, true, false, not, ◌||◌}
use mathlib.Core.List.{[], ◌∷◌}
use Prim.Native.Nat.{ℕ}
use lib.Dec.{eqb}
use borrow.Author.Tests.{eqb-true, not-false}
use Rattle.basics.specs.Tests.{refuse_if, first_of}
use Rattle.basics.proofs.Tests.{refuse-zero, first_of-pass, first_of-stop, first_of-zero}
use Rattle.storage.specs.declared.Geometry.{Geometry}
use Rattle.storage.specs.Geometry.{geometry_test}
use Rattle.device.proofs.Pairs.{false_left, false_right}
use Rattle.session.specs.Tests.{size_test}
use Rattle.script.specs.Columns.{five_uneven}
use Rattle.rows.specs.Rows.{lengths_number}

module _ (g : Geometry) (media copy : ℕ) (uneven : Bool) where
  pub length-units : (units : ℕ) → (units ≡ 0 → ⊥) → units ≡ geometry_test g → units ≡ lengths_number g media copy uneven
  unfolding lengths_number
  length-units units h u = u ∙ sym (first_of-stop (geometry_test g) _ (λ z. h (u ∙ z)))

  module _ (none : 0 ≡ geometry_test g) where
    pub length-sizes : (sizes : ℕ) → (sizes ≡ 0 → ⊥) → sizes ≡ size_test g media copy → sizes ≡ lengths_number g media copy uneven
    unfolding lengths_number
    length-sizes sizes h s = s ∙ sym (first_of-pass (geometry_test g) _ (sym none) ∙ first_of-stop (size_test g media copy) _ (λ z. h (s ∙ z)))

    module _ (fit : 0 ≡ size_test g media copy) where
      pub length-uneven : uneven ≡ true → 12 ≡ lengths_number g media copy uneven
      unfolding lengths_number refuse_if first_of
      length-uneven e = simp (sym none, sym fit, e)

      pub length-even : uneven ≡ false → 0 ≡ lengths_number g media copy uneven
      unfolding lengths_number refuse_if first_of
      length-even e = simp (sym none, sym fit, e)

  -- what lengths that are not refused are
  pub record Passed : Type 0 where
    pub geometry-passes : geometry_test g ≡ 0
    pub sizes-pass : size_test g media copy ≡ 0
    pub all-even : uneven ≡ false

  pub passed : lengths_number g media copy uneven ≡ 0 → Passed
  unfolding lengths_number
  passed e =
      let sizes = size_test g media copy in
      let one = first_of-zero (geometry_test g) (sizes ∷ refuse_if uneven 12 ∷ []) e in
      let two = first_of-zero sizes (refuse_if uneven 12 ∷ []) one.1 in
      let three = first_of-zero (refuse_if uneven 12) [] two.1 in
      record { geometry-passes = one.0; sizes-pass = two.0; all-even = refuse-zero uneven 11 three.0 }

-- columns that are not unequal are of one length
pub five-even : (k a b c s : ℕ) → five_uneven k a b c s ≡ false → (a ≡ k) × (b ≡ k) × (c ≡ k) × (s ≡ k)
five-even k a b c s e =
    let u1 = not (eqb a k) in
    let u2 = not (eqb b k) in
    let u3 = not (eqb c k) in
    let u4 = not (eqb s k) in
    let three : (u1 || u2 || u3) ≡ false = false_left (u1 || u2 || u3) u4 e in
    let two : (u1 || u2) ≡ false = false_left (u1 || u2) u3 three in (
      eqb-true a k (not-false (eqb a k) (false_left u1 u2 two)),
      eqb-true b k (not-false (eqb b k) (false_right u1 u2 two)),
      eqb-true c k (not-false (eqb c k) (false_right (u1 || u2) u3 three)),
      eqb-true s k (not-false (eqb s k) (false_right (u1 || u2 || u3) u4 e)),
    )
