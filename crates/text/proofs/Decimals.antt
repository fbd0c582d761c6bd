-- A number as text: how many digits it has, the loop that writes them, and the part of a buffer that takes them.
-- Assumes nothing.
use mathlib.Core.Path.{◌≡◌, refl, ap, sym, ◌∙◌}
use mathlib.Core.Bool.{Bool, true, false, cond}
use mathlib.Core.List.{List, [], ◌∷◌, ◌++◌, append-nil}
use Prim.Native.Nat.{ℕ, zero, suc, ◌+◌, ◌-◌, ◌*◌, ◌/◌, ◌%◌, ◌^◌, ◌≤◌, ◌<◌}
use native.Mathlib.Numerals.{add-one}
use native.Mathlib.Nat.{pow-zero, pow-suc}
use native.Mathlib.Omega.{arith}
use lib.ListN.{length, drop, length-append}
use lib.Seq.{drop-length}
use lib.Dec.{ltb}
use borrow.Author.Tests.{le-leb, ltb-true, lt-ltb, le-ltb}
use borrow.Rule.Slice.PartMut.{put_mid}
use Rattle.basics.specs.Parts.{overlaid}
use Rattle.basics.proofs.Parts.{part-back}
use Rattle.std.specs.Prelude.{Some as Next}
use Rattle.text.specs.Numbers.{decimal_in, decimal_of}
use Rattle.text.specs.Printing.{Places, Print, printed_at}

-- ---- how many digits

-- one more than the largest number of k digits
abbrev pub tens : ℕ → ℕ
tens zero = 1
tens (suc k) = 10 * tens k

long_by : (t : Bool) (j n : ℕ) → ltb n 10 ≡ t → length (cond t ((48 + n) ∷ []) (decimal_in j (n / 10) ++ ((48 + n % 10) ∷ []))) ≡ cond t 1 (length (decimal_in j (n / 10)) + 1)
long_by true j n e = refl
long_by false j n e = length-append (decimal_in j (n / 10)) ((48 + n % 10) ∷ [])

ten-positive : (k : ℕ) → 0 < 10 ^ k
ten-positive zero = omega (arith, pow-zero 10)
ten-positive (suc k) = let h = ten-positive k in omega (arith, pow-suc 10 k)

-- a number between two powers of ten that follow each other
decimal-long : (j k n : ℕ) → 10 ^ k ≤ n → n < 10 * 10 ^ k → k < j → length (decimal_in j n) ≡ k + 1
unfolding decimal_in
decimal-long zero k n h l m = absurd (omega arith)
decimal-long (suc j) zero n h l m = let z : n < 10 = omega (arith, pow-zero 10) in long_by (ltb n 10) j n refl ∙ rw (lt-ltb n 10 z)
decimal-long (suc j) (suc k) n h l m =
    let e : 10 ^ suc k ≡ 10 ^ k * 10 = pow-suc 10 k in
    let p = ten-positive k in
    let o : 10 ≤ n = omega arith in
    let d = decimal-long j k (n / 10) (omega arith) (omega arith) (omega arith) in
    long_by (ltb n 10) j n refl ∙ rw (le-ltb n 10 o) (omega (arith, d))

pub places-some : (n k : ℕ) → 10 ^ k ≤ n → n < 10 * 10 ^ k → k < 20 → Places n (k + 1)
places-some n k h l m = record { is = sym (decimal-long 20 k n h l m); few = omega arith }

pub places-none : (n : ℕ) → n ≡ 0 → Places n 1
unfolding decimal_in
places-none n z = rw z (record { is = refl; few = omega arith })

pub places-one : (n : ℕ) → n < 10 → Places n 1
places-one zero h = places-none zero refl
places-one (suc n) h = places-some (suc n) 0 (omega arith) (omega (arith, h)) (omega arith)

-- ---- writing them, the last one first

-- the last k digits
abbrev fixed : (k n : ℕ) → List ℕ
fixed zero n = []
fixed (suc k) n = fixed k (n / 10) ++ ((48 + n % 10) ∷ [])

fixed-by : (t : Bool) (j n : ℕ) → ltb n 10 ≡ t → decimal_in j (n / 10) ≡ fixed (length (decimal_in j (n / 10))) (n / 10)
    → cond t ((48 + n) ∷ []) (decimal_in j (n / 10) ++ ((48 + n % 10) ∷ [])) ≡ fixed (length (cond t ((48 + n) ∷ []) (decimal_in j (n / 10) ++ ((48 + n % 10) ∷ [])))) n
fixed-by true j n e k =
    let h : n < 10 = ltb-true n 10 e in
    let z : n % 10 ≡ n = omega arith in
    rw z
fixed-by false j n e k =
    ap (λ (l : List ℕ). l ++ ((48 + n % 10) ∷ [])) k
    ∙ ap (λ (m : ℕ). fixed m n) (sym (length-append (decimal_in j (n / 10)) ((48 + n % 10) ∷ []) ∙ add-one (length (decimal_in j (n / 10)))))

decimal-fixed : (j n : ℕ) → decimal_in j n ≡ fixed (length (decimal_in j n)) n
unfolding decimal_in
decimal-fixed zero n = refl
decimal-fixed (suc j) n = fixed-by (ltb n 10) j n refl (decimal-fixed j (n / 10))

-- the loop of `spell`: what is written, from `i` on, follows the digits that are left
pub record Spelling (n : ℕ) (digits : List ℕ) (rest i : ℕ) : Type 0 where
  pub is : decimal_of n ≡ fixed i rest ++ drop i digits
  pub low : i ≤ length digits

pub spelling-start : (n : ℕ) (digits : List ℕ) → length digits ≡ length (decimal_of n) → Spelling n digits n (length digits)
spelling-start n digits e =
    record {
      is = decimal-fixed 20 n ∙ ap (λ (m : ℕ). fixed m n) (sym e) ∙ sym (append-nil (fixed (length digits) n)) ∙ ap (λ (l : List ℕ). fixed (length digits) n ++ l) (sym (drop-length digits));
      low = omega arith;
    }

-- ---- print_number

module _ (n at : ℕ) (out : List ℕ) (count : ℕ) (w : Places n count) where
  pub print-all : at ≤ length out → count ≤ length out - at → (digits : List ℕ) → digits ≡ decimal_of n
      → ◌≡◌ {A = Print} (record { reply = Next (at + count); out = put_mid at (at + count - at) out digits }) (printed_at n at out)
  print-all h k digits e =
      let c : count ≡ length (decimal_of n) = w.is in
      let l : at + length (decimal_of n) ≤ length out = omega arith in
      let b : put_mid at (at + count - at) out digits ≡ overlaid out at digits = part-back out at count (omega arith) digits (ap length e ∙ sym c) in
      rw (le-leb _ _ l, b, e, c)

pub ruleset decimals = (places-some, places-none, places-one, spelling-start, print-all)
