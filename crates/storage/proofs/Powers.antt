-- "A unit is a power of two exactly if just one bit is set", and a mask tells the multiples of such a unit. Assumes nothing.
use mathlib.Core.Path.{◌≡◌, refl, sym, ap, ◌∙◌}
use mathlib.Core.Logic.{◌⊎◌, inl, inr, ⊎_elim, ◌↔◌}
use Prim.Native.Nat.{ℕ, zero, suc, ◌+◌, ◌-◌, ◌*◌, ◌/◌, ◌%◌, ◌^◌, ◌<◌}
use native.Mathlib.Nat.{pow-suc, mod-lt, div-add-mod', one-mul, add-zero}
use native.Mathlib.Omega.{arith}
use lib.Arith.{bin_ind}
use lib.Pow.{pow_pos}
use lib.Bits.{bit_and, and_mask}
use lib.Count.{ones, ones_step, ones_cat}

even-or-odd : (n : ℕ) → (n % 2 ≡ 0) ⊎ (n % 2 ≡ 1)
even-or-odd n = go (n % 2) (mod-lt n (omega arith))
  where
    go : (d : ℕ) → d < 2 → (d ≡ 0) ⊎ (d ≡ 1)
    go zero h = inl refl
    go (suc zero) h = inr refl
    go (suc (suc d)) h = absurd (omega arith)

-- no bit set: the number is 0
none-set : (n : ℕ) → ones n ≡ 0 → n ≡ 0
none-set =
    bin_ind (λ (n : ℕ). ones n ≡ 0 → n ≡ 0) (λ e. refl)
    (λ n ih e.
    let s : ones n ≡ n % 2 + ones (n / 2) = ones_step n in
    let h : n / 2 ≡ 0 = ih (omega arith) in
    omega (arith, div-add-mod' n 2))

abbrev pub PowerOfTwo : ℕ → Type 0
PowerOfTwo n = (k : ℕ) × (n ≡ 2 ^ k)

doubled : (n : ℕ) → n % 2 ≡ 0 → PowerOfTwo (n / 2) → PowerOfTwo n
doubled n e p =
    let h : n / 2 ≡ 2 ^ p.0 = p.1 in
    (suc p.0, rw (pow-suc 2 p.0) (omega (arith, div-add-mod' n 2)))

one_set : (n : ℕ) → ones n ≡ 1 → PowerOfTwo n
one_set =
    bin_ind (λ (n : ℕ). ones n ≡ 1 → PowerOfTwo n) (λ e. absurd (unfold ones in omega arith))
    (λ n ih e.
    let s : ones n ≡ n % 2 + ones (n / 2) = ones_step n in
    ⊎_elim
    (λ even. doubled n even (ih (omega arith)))
    (λ odd.
    let z : n / 2 ≡ 0 = none-set (n / 2) (omega arith) in
    (0, omega (arith, div-add-mod' n 2)))
    (even-or-odd n))

set-once : (k : ℕ) → ones (2 ^ k) ≡ 1
unfolding ones
set-once k = ap ones (sym (add-zero (1 * 2 ^ k) ∙ one-mul (2 ^ k))) ∙ ones_cat k 1 0 (pow_pos k)

-- just one bit is set exactly if the number is a power of two
pub one-bit : (n : ℕ) → (ones n ≡ 1) ↔ PowerOfTwo n
one-bit n = (one_set n, λ p. ap ones p.1 ∙ set-once p.0)

-- a unit with one bit set is not 0
pub unit-pos : (unit : ℕ) → ones unit ≡ 1 → 0 < unit
unit-pos unit e = let p = one_set unit e in rw p.1 (pow_pos p.0)

-- below such a unit all bits are set in unit - 1, so the mask is the remainder
pub masked : (value unit : ℕ) → ones unit ≡ 1 → bit_and value (unit - 1) ≡ value % unit
masked value unit e = let p = one_set unit e in rw p.1 (and_mask value p.0)
