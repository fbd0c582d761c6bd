-- A digit's value; pairs and the bytes that they stand for: how many there are, each one by its place, and `decode`, byte by byte.
-- Assumes nothing.
use mathlib.Core.Path.{◌≡◌, refl, ap, ap₂, sym, ◌∙◌}
use mathlib.Core.Bool.{true, false, ◌&&◌}
use mathlib.Core.List.{List, [], ◌∷◌, ◌++◌}
use Prim.Native.Nat.{ℕ, zero, suc, ◌+◌, ◌-◌, ◌*◌, ◌/◌, ◌%◌, ◌≤◌, ◌<◌, min}
use native.Mathlib.Nat.{not-suc-le-zero}
use native.Mathlib.Omega.{arith}
use lib.ListN.{length, get_or, set, take, drop, length-take, length-drop}
use lib.Seq.{get_or-drop, get_or-take, take-length}
use lib.Dec.{leb}
use borrow.Author.Tests.{leb-true}
use Rattle.basics.proofs.Overwrites.{over-more}
use Rattle.text.specs.Numbers.{is_digit}
use Rattle.text.specs.Pairs.{is_letter, hex_of, pair_values}
use Rattle.text.proofs.Plain.{both}
use Rattle.hex_pairs.specs.Answers.{decoded}
use Rattle.hex_pairs.specs.Inner.{Nibble}

-- ---- one digit

range : (a b c : ℕ) → (leb a c && leb c b) ≡ true → (a ≤ c) × (c ≤ b)
range a b c e = let t = both (leb a c) (leb c b) e in (leb-true a c t.0, leb-true c b t.1)

pub letter-low : (c : ℕ) → is_letter c ≡ true → 97 ≤ c
unfolding is_letter
letter-low c e = (range 97 102 c e).0

pub nibble-digit : (c : ℕ) → (leb 48 c && leb c 57) ≡ true → Nibble c (c - 48)
unfolding hex_of is_digit
nibble-digit c e = let r = range 48 57 c e in let a = r.0 in let b = r.1 in record { is = rw e; small = omega arith }

pub nibble-letter : (c : ℕ) → (leb 48 c && leb c 57) ≡ false → is_letter c ≡ true → Nibble c (c - 97 + 10)
unfolding hex_of is_digit is_letter
nibble-letter c n e = let r = range 97 102 c e in let a = r.0 in let b = r.1 in record { is = rw (n, e) (omega arith); small = omega arith }

pub nibble-none : (c : ℕ) → (leb 48 c && leb c 57) ≡ false → is_letter c ≡ false → Nibble c 0
unfolding hex_of is_digit
nibble-none c n e = record { is = rw (n, e); small = omega arith }

-- ---- pairs

pub pair-count : (xs : List ℕ) → length (pair_values xs) ≡ length xs / 2
unfolding pair_values
pair-count [] = refl
pair-count (h ∷ []) = refl
pair-count (h ∷ l ∷ r) = let e = pair-count r in omega arith

pub pair-at : (k : ℕ) (xs : List ℕ) → 2 * k + 1 < length xs → get_or (pair_values xs) k 0 ≡ hex_of (get_or xs (2 * k) 0) * 16 + hex_of (get_or xs (2 * k + 1) 0)
unfolding pair_values
pair-at k [] h = absurd (not-suc-le-zero h)
pair-at k (x ∷ []) h = absurd (omega arith)
pair-at zero (x ∷ y ∷ r) h = refl
pair-at (suc k) (x ∷ y ∷ r) h =
    let a : 2 * suc k ≡ suc (suc (2 * k)) = omega arith in
    let b : 2 * suc k + 1 ≡ suc (suc (2 * k + 1)) = omega arith in
    pair-at k r (omega arith)
    ∙ ap₂ (λ (m n : ℕ). hex_of (get_or (x ∷ y ∷ r) m 0) * 16 + hex_of (get_or (x ∷ y ∷ r) n 0)) (sym a) (sym b)

-- pairs in front of other text
pub pairs-append : (f r : List ℕ) → length f % 2 ≡ 0 → pair_values (f ++ r) ≡ pair_values f ++ pair_values r
unfolding pair_values
pairs-append [] r e = refl
pairs-append (x ∷ []) r e = absurd (omega arith)
pairs-append (x ∷ y ∷ f) r e = ap (λ (l : List ℕ). (hex_of x * 16 + hex_of y) ∷ l) (pairs-append f r (omega arith))

-- ---- decode

-- the bytes that are to be stored
abbrev pub new : (s : List ℕ) (from : ℕ) (old : List ℕ) → List ℕ
new s from old = take (length old) (pair_values (drop from s))

pub new-long : (s : List ℕ) (from : ℕ) (old : List ℕ) → length (new s from old) ≡ min (length old) ((length s - from) / 2)
new-long s from old =
    length-take (length old) (pair_values (drop from s))
    ∙ ap (min (length old)) (pair-count (drop from s) ∙ ap (λ (n : ℕ). n / 2) (length-drop from s))

module _ (s : List ℕ) (from : ℕ) (old : List ℕ) (count : ℕ) (e : count ≡ min (length old) ((length s - from) / 2)) where
  pub decode-next : (l : List ℕ) (i k : ℕ) → k < count → i ≡ from + 2 * k → l ≡ take k (new s from old) ++ drop k old
      → (h w : ℕ) → h ≡ hex_of (get_or s i 0) → w ≡ hex_of (get_or s (i + 1) 0) → set l k (h * 16 + w) ≡ take (k + 1) (new s from old) ++ drop (k + 1) old
  decode-next l i k lt q is h w a b =
      let n : length (new s from old) ≡ count = new-long s from old ∙ sym e in
      let k₁ : k < length (new s from old) = omega arith in
      let k₂ : k < length old = omega arith in
      let d : length (drop from s) ≡ length s - from = length-drop from s in
      let m : 2 * k + 1 < length (drop from s) = omega arith in
      let x : get_or (drop from s) (2 * k) 0 ≡ get_or s i 0 = get_or-drop from s (2 * k) 0 ∙ ap (λ (j : ℕ). get_or s j 0) (sym q) in
      let p : from + (2 * k + 1) ≡ i + 1 = omega arith in
      let y : get_or (drop from s) (2 * k + 1) 0 ≡ get_or s (i + 1) 0 = get_or-drop from s (2 * k + 1) 0 ∙ ap (λ (j : ℕ). get_or s j 0) p in
      let v : h * 16 + w ≡ get_or (new s from old) k 0 =
      sym (get_or-take (length old) (pair_values (drop from s)) k 0 k₂ ∙ pair-at k (drop from s) m ∙ ap₂ (λ (c c' : ℕ). hex_of c * 16 + hex_of c') x y ∙ ap₂ (λ (u u' : ℕ). u * 16 + u') (sym a) (sym b)) in
      over-more (new s from old) old l k (h * 16 + w) 0 k₁ k₂ is v

  pub decode-end : (l : List ℕ) (k : ℕ) → k ≤ count → count ≤ k → l ≡ take k (new s from old) ++ drop k old → l ≡ decoded s from old
  decode-end l k a b is =
      let n : length (new s from old) ≡ count = new-long s from old ∙ sym e in
      let q : k ≡ length (new s from old) = omega arith in
      is ∙ ap (λ (m : ℕ). take m (new s from old) ++ drop m old) q ∙ ap (λ (t : List ℕ). t ++ drop (length (new s from old)) old) (take-length (new s from old))
