-- What is printed reads back: a number in decimal, and bytes as hexadecimal pairs.
--     decimal-value    the digits of every u64 are digits, have no zero in front and have its value
--     decimal-read     a u32 in decimal is that number
--     pairs-are, pairs-read    bytes as pairs are pairs, and stand for the bytes
-- Assumes nothing.
use mathlib.Core.Path.{◌≡◌, refl, ap, ◌∙◌}
use mathlib.Core.Bool.{Bool, true, false, cond, ◌&&◌}
use mathlib.Core.List.{List, [], ◌∷◌, ◌++◌}
use Prim.Native.Nat.{ℕ, zero, suc, ◌+◌, ◌-◌, ◌*◌, ◌/◌, ◌%◌, ◌^◌, ◌≤◌, ◌<◌}
use native.Mathlib.Omega.{arith}
use lib.ListN.{length}
use lib.Dec.{ltb}
use borrow.Author.Tests.{eq-eqb, le-leb, lt-leb, ltb-true, ltb-false}
use Rattle.text.specs.Numbers.{largest, is_digit, all_digits, value_from, value_of, zero_led, is_number, number, number_of, decimal_in, decimal_of}
use Rattle.text.specs.Pairs.{is_letter, is_hex, all_hex, is_pairs, hex_of, pair_values, AllBytes, pairs_text}
use Rattle.text.proofs.Plain.{Plain, digits-plain, hex-plain}
use Rattle.text.proofs.Numbers.{digit-is, not-led}
use Rattle.text.proofs.Decimals.{tens}

-- ---- a number in decimal

value-snoc : (m : ℕ) (xs : List ℕ) (b : ℕ) → value_from m (xs ++ (b ∷ [])) ≡ value_from m xs * 10 + (b - 48)
unfolding value_from
value-snoc m [] b = refl
value-snoc m (x ∷ xs) b = value-snoc (m * 10 + (x - 48)) xs b

digits-snoc : (xs : List ℕ) (b : ℕ) → is_digit b ≡ true → all_digits xs ≡ true → all_digits (xs ++ (b ∷ [])) ≡ true
unfolding all_digits
digits-snoc [] b e k = simp e
digits-snoc (x ∷ xs) b e k = by (is_digit x) (all_digits xs) (digits-snoc xs b e) k
  where
    by : (t u : Bool) → (u ≡ true → all_digits (xs ++ (b ∷ [])) ≡ true) → (t && u) ≡ true → (t && all_digits (xs ++ (b ∷ []))) ≡ true
    by true u f q = f q
    by false u f q = q

figure : (d : ℕ) → d < 10 → is_digit (48 + d) ≡ true
figure d h = digit-is (48 + d) (omega arith) (omega arith)

value-by : (t : Bool) (j n : ℕ) → ltb n 10 ≡ t → (n / 10 < tens j → value_of (decimal_in j (n / 10)) ≡ n / 10) → n < 10 * tens j
    → value_of (cond t ((48 + n) ∷ []) (decimal_in j (n / 10) ++ ((48 + n % 10) ∷ []))) ≡ n
unfolding value_from
value-by true j n e k h = let q : 0 * 10 + (48 + n - 48) ≡ n = omega arith in q
value-by false j n e k h =
    let i = k (omega arith) in
    let q : n / 10 * 10 + (48 + n % 10 - 48) ≡ n = omega arith in
    value-snoc 0 (decimal_in j (n / 10)) (48 + n % 10) ∙ rw i q

value-back : (j n : ℕ) → n < tens j → value_of (decimal_in j n) ≡ n
unfolding decimal_in value_from
value-back zero n h = let q : 0 ≡ n = omega arith in q
value-back (suc j) n h = value-by (ltb n 10) j n refl (λ l. value-back j (n / 10) l) h

figures-by : (t : Bool) (j n : ℕ) → ltb n 10 ≡ t → all_digits (decimal_in j (n / 10)) ≡ true
    → all_digits (cond t ((48 + n) ∷ []) (decimal_in j (n / 10) ++ ((48 + n % 10) ∷ []))) ≡ true
unfolding all_digits
figures-by true j n e k = simp (figure n (ltb-true n 10 e))
figures-by false j n e k = digits-snoc (decimal_in j (n / 10)) (48 + n % 10) (figure (n % 10) (omega arith)) k

figures : (j n : ℕ) → all_digits (decimal_in j n) ≡ true
unfolding decimal_in all_digits
figures zero n = refl
figures (suc j) n = figures-by (ltb n 10) j n refl (figures j (n / 10))

-- no zero in front
record Front (l : List ℕ) : Type 0 where
  first : ℕ
  others : List ℕ
  is : l ≡ first ∷ others
  apart : first ≡ 48 → ⊥

front_by : (t : Bool) (j n : ℕ) → ltb n 10 ≡ t → 0 < n → (0 < n / 10 → Front (decimal_in j (n / 10)))
    → Front (cond t ((48 + n) ∷ []) (decimal_in j (n / 10) ++ ((48 + n % 10) ∷ [])))
front_by true j n e h k = record { first = 48 + n; others = []; is = refl; apart = λ q. omega (arith, q) }
front_by false j n e h k =
    let l : 10 ≤ n = ltb-false n 10 e in
    let f = k (omega arith) in
    record { first = f.first; others = f.others ++ ((48 + n % 10) ∷ []); is = ap (λ (x : List ℕ). x ++ ((48 + n % 10) ∷ [])) f.is; apart = f.apart }

front : (j n : ℕ) → 0 < n → n < tens j → Front (decimal_in j n)
unfolding decimal_in
front zero n h l = absurd (omega arith)
front (suc j) n h l = front_by (ltb n 10) j n refl h (λ q. front j (n / 10) q (omega arith))

front-led : (l : List ℕ) → Front l → zero_led l ≡ false
front-led l f = rw f.is (not-led f.first f.others f.apart)

zero-text : decimal_of 0 ≡ 48 ∷ []
unfolding decimal_in
zero-text = refl

unled : (n : ℕ) → n < 2 ^ 64 → zero_led (decimal_of n) ≡ false
unled zero h = rw zero-text
unled (suc n) h = front-led (decimal_of (suc n)) (front 20 (suc n) (omega arith) (omega arith))

-- what a printed number is
pub record Printable (n : ℕ) : Type 0 where
  pub digits : all_digits (decimal_of n) ≡ true
  pub unled : zero_led (decimal_of n) ≡ false
  pub value : value_of (decimal_of n) ≡ n

pub decimal-value : (n : ℕ) → n < 2 ^ 64 → Printable n
decimal-value n h = record { digits = figures 20 n; unled = unled n h; value = value-back 20 n (omega arith) }

pub decimal-plain : (n : ℕ) → Plain (decimal_of n)
decimal-plain n = digits-plain (decimal_of n) (figures 20 n)

-- a number has a digit
some : (l : List ℕ) (n : ℕ) → all_digits l ≡ true → zero_led l ≡ false → value_of l ≡ n → n ≤ largest → (l ≡ [] → ⊥) → number_of l ≡ number n
unfolding number_of is_number
some [] n d z v h e = absurd (e refl)
some (b ∷ bs) n d z v h e = simp (d, z, v, le-leb _ _ h)

filled : (n : ℕ) → n < 2 ^ 64 → decimal_of n ≡ [] → ⊥
unfolding decimal_in
filled zero h e = let z : ◌≡◌ {A = ℕ} 0 1 = cc in omega arith
filled (suc n) h e = let f = front 20 (suc n) (omega arith) (omega arith) in let q = f.is in let z : ◌≡◌ {A = ℕ} 0 1 = cc in omega arith

pub decimal-read : (n : ℕ) → n ≤ largest → number_of (decimal_of n) ≡ number n
decimal-read n h =
    let l : n < 2 ^ 64 = omega arith in
    let p = decimal-value n l in
    some (decimal_of n) n p.digits p.unled p.value h (filled n l)

-- ---- bytes as pairs

nibble-hex : (t : Bool) (d : ℕ) → ltb d 10 ≡ t → d < 16 → is_hex (cond t (48 + d) (87 + d)) ≡ true
unfolding is_hex is_digit is_letter
nibble-hex true d e h = let l : d < 10 = ltb-true d 10 e in let a : 48 ≤ 48 + d = omega arith in let b : 48 + d ≤ 57 = omega arith in simp (le-leb _ _ a, le-leb _ _ b)
nibble-hex false d e h = let l : 10 ≤ d = ltb-false d 10 e in let a : 48 ≤ 87 + d = omega arith in let b : 57 < 87 + d = omega arith in let x : 97 ≤ 87 + d = omega arith in let y : 87 + d ≤ 102 = omega arith in simp (le-leb _ _ a, lt-leb _ _ b, le-leb _ _ x, le-leb _ _ y)

nibble-value : (t : Bool) (d : ℕ) → ltb d 10 ≡ t → d < 16 → hex_of (cond t (48 + d) (87 + d)) ≡ d
unfolding hex_of is_digit is_letter
nibble-value true d e h = let l : d < 10 = ltb-true d 10 e in let a : 48 ≤ 48 + d = omega arith in let b : 48 + d ≤ 57 = omega arith in simp (le-leb _ _ a, le-leb _ _ b) (let q : 48 + d - 48 ≡ d = omega arith in q)
nibble-value false d e h = let l : 10 ≤ d = ltb-false d 10 e in let a : 48 ≤ 87 + d = omega arith in let b : 57 < 87 + d = omega arith in let x : 97 ≤ 87 + d = omega arith in let y : 87 + d ≤ 102 = omega arith in simp (le-leb _ _ a, lt-leb _ _ b, le-leb _ _ x, le-leb _ _ y) (let q : 87 + d - 87 ≡ d = omega arith in q)

pairs-hex : (bs : List ℕ) → AllBytes bs → all_hex (pairs_text bs) ≡ true
unfolding pairs_text all_hex
pairs-hex [] a = refl
pairs-hex (b ∷ bs) a = let h : b < 256 = a.0 in let p : b / 16 < 16 = omega arith in let q : b % 16 < 16 = omega arith in simp (nibble-hex (ltb (b / 16) 10) (b / 16) refl p, nibble-hex (ltb (b % 16) 10) (b % 16) refl q, pairs-hex bs a.1)

pub pairs-long : (bs : List ℕ) → length (pairs_text bs) ≡ 2 * length bs
unfolding pairs_text
pairs-long [] = refl
pairs-long (b ∷ bs) = let e = pairs-long bs in omega arith

pub pairs-are : (bs : List ℕ) → AllBytes bs → is_pairs (pairs_text bs) ≡ true
unfolding is_pairs
pairs-are bs a = let e : 2 * length bs % 2 ≡ 0 = omega arith in simp (pairs-hex bs a, pairs-long bs, eq-eqb _ _ e)

pub pairs-read : (bs : List ℕ) → AllBytes bs → pair_values (pairs_text bs) ≡ bs
unfolding pairs_text pair_values
pairs-read [] a = refl
pairs-read (b ∷ bs) a = let h : b < 256 = a.0 in let p : b / 16 < 16 = omega arith in let q : b % 16 < 16 = omega arith in let z : b / 16 * 16 + b % 16 ≡ b = omega arith in simp (nibble-value (ltb (b / 16) 10) (b / 16) refl p, nibble-value (ltb (b % 16) 10) (b % 16) refl q, pairs-read bs a.1, z)

pub pairs-plain : (bs : List ℕ) → AllBytes bs → Plain (pairs_text bs)
pairs-plain bs a = hex-plain (pairs_text bs) (pairs-hex bs a)
