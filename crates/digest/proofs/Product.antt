-- A product modulo 2^64 by the bits of its second factor, the lowest first.
--     odd, even     a bit is taken off: the sum so far and the product that is left are together what they were
--     none_left     no bit is left, and the sum is the product
-- Assumes nothing.
use Rattle.std.proofs.Common.{◌≡◌, ℕ, ◌+◌, ◌*◌, ◌/◌, ◌%◌, ◌^◌, ◌<◌, sym, ap, ◌∙◌, div-add-mod', arith}

-- a multiple of 2^64 in a factor changes nothing
multiple : (s k d q : ℕ) → (s + d * q) % 2 ^ 64 ≡ (s + (k * 2 ^ 64 + d) * q) % 2 ^ 64
multiple s k d q = omega arith

factor-wraps : (s d q : ℕ) → (s + d % 2 ^ 64 * q) % 2 ^ 64 ≡ (s + d * q) % 2 ^ 64
factor-wraps s d q = multiple s (d / 2 ^ 64) (d % 2 ^ 64) q ∙ ap (λ (x : ℕ). (s + x * q) % 2 ^ 64) (div-add-mod' d (2 ^ 64))

sum_wraps : (s y : ℕ) → (s % 2 ^ 64 + y) % 2 ^ 64 ≡ (s + y) % 2 ^ 64
sum_wraps s y = omega arith

-- twice the factor, half of the bits, and the lowest bit
halved : (s d q b : ℕ) → s + d * b + d * 2 ^ 1 * q ≡ s + d * (q * 2 + b)
halved s d q b = omega arith

lowest : (s d l b : ℕ) → l % 2 ≡ b → s + d * b + d * 2 ^ 1 * (l / 2) ≡ s + d * l
lowest s d l b e = halved s d (l / 2) b ∙ ap (λ (x : ℕ). s + d * (l / 2 * 2 + x)) (sym e) ∙ ap (λ (x : ℕ). s + d * x) (div-add-mod' l 2)

-- with the lowest bit b, from a sum that has grown by d * b, wrapped or not
step : (s d l b t : ℕ) → l % 2 ≡ b → (t + d * 2 ^ 1 * (l / 2)) % 2 ^ 64 ≡ (s + d * b + d * 2 ^ 1 * (l / 2)) % 2 ^ 64
    → (t + d * 2 ^ 1 % 2 ^ 64 * (l / 2)) % 2 ^ 64 ≡ (s + d * l) % 2 ^ 64
step s d l b t e g = factor-wraps t (d * 2 ^ 1) (l / 2) ∙ g ∙ ap (λ (x : ℕ). x % 2 ^ 64) (lowest s d l b e)

once : (s d : ℕ) → s + d ≡ s + d * 1
once s d = omega arith

never : (s d : ℕ) → s ≡ s + d * 0
never s d = omega arith

pub odd : (s d l t : ℕ) → l % 2 ≡ 1 → t ≡ (s + d) % 2 ^ 64 → (t + d * 2 ^ 1 % 2 ^ 64 * (l / 2)) % 2 ^ 64 ≡ (s + d * l) % 2 ^ 64
odd s d l t e q =
    step s d l 1 t e
    (ap (λ (x : ℕ). (x + d * 2 ^ 1 * (l / 2)) % 2 ^ 64) q
    ∙ sum_wraps (s + d) (d * 2 ^ 1 * (l / 2))
    ∙ ap (λ (x : ℕ). (x + d * 2 ^ 1 * (l / 2)) % 2 ^ 64) (once s d))

pub even : (s d l t : ℕ) → l % 2 ≡ 0 → t ≡ s → (t + d * 2 ^ 1 % 2 ^ 64 * (l / 2)) % 2 ^ 64 ≡ (s + d * l) % 2 ^ 64
even s d l t e q = step s d l 0 t e (ap (λ (x : ℕ). (x + d * 2 ^ 1 * (l / 2)) % 2 ^ 64) (q ∙ never s d))

pub none_left : (s d l n : ℕ) → l ≡ 0 → s < 2 ^ 64 → (s + d * l) % 2 ^ 64 ≡ n → s ≡ n
none_left s d l n e f inv = let z : (s + d * 0) % 2 ^ 64 ≡ n = rw e at inv in omega arith
