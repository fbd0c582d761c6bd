-- The inner multiples of a unit are its first ones: `(len - 1) / unit` of them. Assumes nothing.
use mathlib.Core.Path.{◌≡◌, refl, ap, ◌∙◌}
use mathlib.Core.Logic.{◌⊎◌, inl, inr, ⊎_elim}
use mathlib.Core.Bool.{true, ◌||◌}
use mathlib.Core.List.{[], append-nil}
use Prim.Native.Nat.{ℕ, zero, suc, ◌+◌, ◌-◌, ◌*◌, ◌/◌, ◌%◌, ◌^◌, ◌<◌}
use native.Mathlib.Nat.{suc-ne-zero, mod-zero, mod-lt, div-add-mod', eq-or-lt_of_le, div-eq_of_eq-mul_left, div-eq_of_lt-le, mul-mod_left, mul-add-mod_self_right, mod-eq_of_lt, suc-mul, add-mul, one-mul, zero-div, div-mul-le_self, not-suc-le-zero}
use native.Mathlib.Numerals.{sub-one}
use native.Mathlib.Omega.{arith}
use lib.Dec.{eqb}
use borrow.Author.Tests.{eq-eqb, ne_eqb}
use Rattle.std.proofs.lemmas.Bool.{false≢true}
use Rattle.inject.specs.Points.{multiples, inner}
use Rattle.inject.specs.Steps.{steps}

-- ---- division by a unit, one step up

abbrev Up : ℕ → ℕ → Type 0
Up u n =
    ((suc n % u ≡ 0) × (suc n / u ≡ suc (n / u)) × (suc n ≡ suc (n / u) * u))
    ⊎ ((suc n % u ≡ 0 → ⊥) × (suc n / u ≡ n / u))

up-mod : (u n : ℕ) → 0 < u → suc (n % u) ≡ u → suc n ≡ suc (n / u) * u
up-mod u n h e = rw suc-mul (omega (arith, div-add-mod' n u))

up : (u n : ℕ) → 0 < u → Up u n
up u n h =
    ⊎_elim
    (λ e.
    let m : suc n ≡ suc (n / u) * u = up-mod u n h e in
    inl (rw m (mul-mod_left (suc (n / u)) u), div-eq_of_eq-mul_left h m, m))
    (λ l.
    let m : suc n ≡ n / u * u + suc (n % u) = omega (arith, div-add-mod' n u) in
    let r : suc n % u ≡ suc (n % u) = ap (λ (x : ℕ). x % u) m ∙ mul-add-mod_self_right (n / u) u (suc (n % u)) ∙ mod-eq_of_lt l in
    inr (
      (λ z. omega arith),
      div-eq_of_lt-le u (omega arith) (rw add-mul (omega (arith, one-mul u))),
    ))
    (eq-or-lt_of_le (mod-lt n h))

-- ---- the multiples of a unit from 1 to n are the first n / unit

pub steps-multiples : (u n : ℕ) → 0 < u → steps u (n / u) ≡ multiples u n
unfolding multiples steps
steps-multiples u zero h = rw (zero-div u)
steps-multiples u (suc n) h =
    ⊎_elim
    (λ y. simp (eq-eqb _ _ y.0, y.1, steps-multiples u n h) (rw (← y.2)))
    (λ y. simp (ne_eqb _ _ y.0, y.1, append-nil) (steps-multiples u n h))
    (up u n h)

pub steps-inner : (u n : ℕ) → 0 < u → 0 < n → steps u ((n - 1) / u) ≡ inner u n
unfolding inner
steps-inner u zero h k = absurd (not-suc-le-zero k)
steps-inner u (suc n) h k = rw sub-one (steps-multiples u n h)

-- the unit 0 has none
no-multiples : (n : ℕ) → [] ≡ multiples 0 n
unfolding multiples
no-multiples zero = refl
no-multiples (suc n) = simp (mod-zero, ne_eqb (suc n) 0 (suc-ne-zero n), append-nil) (no-multiples n)

-- nor has a span of no bytes
pub no_inner : (u n : ℕ) → (eqb n 0 || eqb u 0) ≡ true → [] ≡ inner u n
unfolding inner
no_inner u zero e = refl
no_inner zero (suc n) e = no-multiples n
no_inner (suc u) (suc n) e = absurd (false≢true (simp (ne_eqb (suc n) 0 (suc-ne-zero n), ne_eqb (suc u) 0 (suc-ne-zero u)) at e))

-- the last of them lies within the span
pub steps-fit : (u n : ℕ) → n < 2 ^ 32 → (n - 1) / u * u < 2 ^ 32
steps-fit u n h = omega (arith, div-mul-le_self (n - 1) u)
