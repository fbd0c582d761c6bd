-- Text without tab and LF: all of its bytes are above 10. Digits and hexadecimal digits are such text.
-- Assumes nothing.
use mathlib.Core.Path.{◌≡◌, refl}
use mathlib.Core.Bool.{Bool, true, false, cond, ◌&&◌, ◌||◌}
use mathlib.Core.List.{List, [], ◌∷◌}
use Prim.Native.Nat.{ℕ, ◌<◌, ◌≤◌}
use native.Mathlib.Omega.{arith}
use lib.Dec.{leb}
use borrow.Author.Tests.{leb-true}
use Rattle.text.specs.Numbers.{is_digit, all_digits, value_of, is_number, number, none, number_of}
use Rattle.text.specs.Pairs.{is_letter, is_hex, all_hex}

abbrev pub Plain : List ℕ → Type 0
Plain [] = Unit {0}
Plain (x ∷ xs) = (10 < x) × Plain xs

pub both : (t u : Bool) → (t && u) ≡ true → (t ≡ true) × (u ≡ true)
both true true e = (refl, refl)
both true false e = absurd (let z : ◌≡◌ {A = ℕ} 0 1 = cc in omega arith)
both false u e = absurd (let z : ◌≡◌ {A = ℕ} 0 1 = cc in omega arith)

digit-above : (x : ℕ) → is_digit x ≡ true → 10 < x
unfolding is_digit
digit-above x e = let h : 48 ≤ x = leb-true 48 x (both (leb 48 x) (leb x 57) e).0 in omega arith

letter-above : (x : ℕ) → is_letter x ≡ true → 10 < x
unfolding is_letter
letter-above x e = let h : 97 ≤ x = leb-true 97 x (both (leb 97 x) (leb x 102) e).0 in omega arith

hex-by : (t u : Bool) (x : ℕ) → is_digit x ≡ t → is_letter x ≡ u → (t || u) ≡ true → 10 < x
hex-by true u x a b e = digit-above x a
hex-by false true x a b e = letter-above x b
hex-by false false x a b e = absurd (let z : ◌≡◌ {A = ℕ} 0 1 = cc in omega arith)

hex-above : (x : ℕ) → is_hex x ≡ true → 10 < x
unfolding is_hex
hex-above x e = hex-by (is_digit x) (is_letter x) x refl refl e

pub digits-plain : (f : List ℕ) → all_digits f ≡ true → Plain f
unfolding all_digits
digits-plain [] e = tt
digits-plain (x ∷ f) e = let t = both (is_digit x) (all_digits f) e in (digit-above x t.0, digits-plain f t.1)

pub hex-plain : (f : List ℕ) → all_hex f ≡ true → Plain f
unfolding all_hex
hex-plain [] e = tt
hex-plain (x ∷ f) e = let t = both (is_hex x) (all_hex f) e in (hex-above x t.0, hex-plain f t.1)

-- a field that is a number
number_by : (t : Bool) (v w : ℕ) → cond t (number w) none ≡ number v → t ≡ true
number_by true v w e = refl
number_by false v w e = absurd (let z : ◌≡◌ {A = ℕ} 0 1 = cc in omega arith)

number_digits : (f : List ℕ) → is_number f ≡ true → all_digits f ≡ true
unfolding is_number all_digits
number_digits [] e = refl
number_digits (b ∷ bs) e = (both (is_digit b && all_digits bs) _ e).0

pub number-plain : (f : List ℕ) (v : ℕ) → number_of f ≡ number v → Plain f
unfolding number_of
number-plain f v e = digits-plain f (number_digits f (number_by (is_number f) v (value_of f) e))
