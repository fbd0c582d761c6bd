-- The AND of two numbers as programming uses it: it keeps no bit that its operands lack. Assumes nothing.
use mathlib.Core.Path.{◌≡◌, refl, sym, ap, ap₂, ◌∙◌}
use mathlib.Core.Logic.{◌↔◌}
use Prim.Native.Nat.{ℕ, ◌*◌, ◌+◌, ◌/◌, ◌%◌, ◌^◌, ◌≤◌, ◌<◌, min}
use native.Mathlib.Nat.{div-one, min-eq_left, min-le_left, min-le_right, lt_of_le_of_lt, mod-lt, mod-eq_of_lt, div-add-mod'}
use native.Mathlib.Omega.{arith}
use lib.Arith.{bin_ind, digits_mod}
use lib.Pow.{shr-shr}
use lib.Bits.{bit_and, and_step, and_shr, and_comm, and_mask}

-- the lowest bit of an AND
and-odd : (a b : ℕ) → bit_and a b % 2 ≡ min (a % 2) (b % 2)
and-odd a b = ap (λ (x : ℕ). x % 2) (and_step a b) ∙ digits_mod (bit_and (a / 2) (b / 2)) (lt_of_le_of_lt (min-le_left (a % 2) (b % 2)) (mod-lt a (omega arith)))

-- a second AND with the same byte clears nothing more
pub and_again : (a b : ℕ) → bit_and (bit_and a b) b ≡ bit_and a b
and_again =
    bin_ind (λ (n : ℕ). (b : ℕ) → bit_and (bit_and n b) b ≡ bit_and n b) (λ b. refl)
    (λ n ih b. and_step (bit_and n b) b
    ∙ ap₂ (λ (x y : ℕ). bit_and x (b / 2) * 2 + min y (b % 2)) (and_shr n b 1) (and-odd n b)
    ∙ ap₂ (λ (x y : ℕ). x * 2 + y) (ih (b / 2)) (min-eq_left (min-le_right (n % 2) (b % 2)))
    ∙ sym (and_step n b))

-- what an AND leaves lies within the cell
pub and-within : (a b : ℕ) → bit_and (bit_and a b) a ≡ bit_and a b
and-within a b = ap (λ (x : ℕ). bit_and x a) (and_comm a b) ∙ and_again b a ∙ and_comm b a

-- an erased cell takes every byte as it is
pub and-erased : (byte : ℕ) → byte < 256 → bit_and 255 byte ≡ byte
and-erased byte h = and_comm 255 byte ∙ and_mask byte 8 ∙ mod-eq_of_lt h

-- the bit of n at place k
abbrev pub bit : ℕ → ℕ → ℕ
bit k n = n / 2 ^ k % 2

-- a bit of an AND is set exactly if it is in both
pub bit-and : (k a b : ℕ) → bit k (bit_and a b) ≡ min (bit k a) (bit k b)
bit-and k a b = ap (λ (x : ℕ). x % 2) (and_shr a b k) ∙ and-odd (a / 2 ^ k) (b / 2 ^ k)

-- the AND with its cell gives a byte back exactly if the byte has no 1 where its cell has 0
pub and-bits : (byte cell : ℕ) → (bit_and byte cell ≡ byte) ↔ ((k : ℕ) → bit k byte ≤ bit k cell)
and-bits byte cell = (
  λ e k. rw (ap (bit k) (sym e) ∙ bit-and k byte cell) (min-le_right (bit k byte) (bit k cell)),
  bin_ind (λ (n : ℕ). (c : ℕ) → ((k : ℕ) → bit k n ≤ bit k c) → bit_and n c ≡ n) (λ c h. refl)
      (λ n ih c h.
      let low : n % 2 ≤ c % 2 = rw (div-one n, div-one c) at (h 0) in
      let rest : (k : ℕ) → bit k (n / 2) ≤ bit k (c / 2) = λ k. rw (shr-shr n 1 k, shr-shr c 1 k) (h (1 + k)) in
      and_step n c ∙ ap₂ (λ (x y : ℕ). x * 2 + y) (ih (c / 2) rest) (min-eq_left low) ∙ div-add-mod' n 2)
      byte cell,
)
