-- Some pair of two lists stands as f says.
--     any-more, any-all            a loop over the pairs: what has been passed, one pair more, and all of them
--     any_append, any_same         lists that are put together; no element differs from itself
--     any_none, differing          no pair differs: the lists are the same; some does: so do the lists, as `!=` of two slices tells
--     pair-blocks, fill-block      a search by blocks and behind them; `found` and `passed` take its one step apart
-- Assumes nothing.
use mathlib.Core.Path.{◌≡◌, refl, sym, ap, ap₂, ◌∙◌}
use mathlib.Core.Bool.{Bool, true, false, not, ◌&&◌, ◌||◌, or-false, or_assoc}
use mathlib.Core.List.{List, [], ◌∷◌, ◌++◌}
use Prim.Native.Nat.{ℕ, zero, suc, ◌+◌, ◌-◌, ◌*◌, ◌≤◌, ◌<◌}
use native.Mathlib.Nat.{not-suc-le-zero, le_of_suc-le-suc, suc-ne-zero, suc_inj, zero-mul}
use native.Mathlib.Numerals.{add-one}
use native.Mathlib.Omega.{arith}
use Rattle.std.specs.List.{list_any, zip}
use Rattle.std.specs.Simd.{first_chunks}
use lib.Dec.{eqb}
use lib.ListN.{length, take, drop, get_or, replicate}
use lib.Pointwise.{pointwise}
use lib.Seq.{take_all, drop-drop}
use borrow.Author.Tests.{eq-eqb, eqb-true, not-false}
use Rattle.device.specs.Media.{ff, any_pair, unequal}

-- ---- a loop over the pairs

module _ (f : ℕ → ℕ → Bool) where
  any-suc : (xs ys : List ℕ) (i : ℕ) → i < length xs → i < length ys
      → any_pair f (take (suc i) xs) (take (suc i) ys) ≡ (any_pair f (take i xs) (take i ys) || f (get_or xs i 0) (get_or ys i 0))
  unfolding any_pair
  any-suc [] ys i h k = absurd (not-suc-le-zero h)
  any-suc (x ∷ xs) [] i h k = absurd (not-suc-le-zero k)
  any-suc (x ∷ xs) (y ∷ ys) zero h k = or-false (f x y)
  any-suc (x ∷ xs) (y ∷ ys) (suc i) h k =
      ap (λ (b : Bool). f x y || b) (any-suc xs ys i (le_of_suc-le-suc h) (le_of_suc-le-suc k))
      ∙ sym (or_assoc (f x y) (any_pair f (take i xs) (take i ys)) (f (get_or xs i 0) (get_or ys i 0)))

  module _ (xs ys : List ℕ) (i : ℕ) where
    pub any-more : i < length xs → i < length ys
        → any_pair f (take (i + 1) xs) (take (i + 1) ys) ≡ (any_pair f (take i xs) (take i ys) || f (get_or xs i 0) (get_or ys i 0))
    any-more h k = rw (add-one i) (any-suc xs ys i h k)

    pub any-all : length xs ≤ i → length ys ≤ i → any_pair f (take i xs) (take i ys) ≡ any_pair f xs ys
    any-all h k = rw (take_all i xs h, take_all i ys k)

  -- ---- lists that are put together

  pub any_append : (a b x y : List ℕ) → length a ≡ length b → any_pair f (a ++ x) (b ++ y) ≡ (any_pair f a b || any_pair f x y)
  unfolding any_pair
  any_append [] [] x y e = refl
  any_append [] (b ∷ bs) x y e = absurd (suc-ne-zero (length bs) (sym e))
  any_append (a ∷ us) [] x y e = absurd (suc-ne-zero (length us) e)
  any_append (a ∷ us) (b ∷ bs) x y e = ap (λ (t : Bool). f a b || t) (any_append us bs x y (suc_inj e)) ∙ sym (or_assoc (f a b) (any_pair f us bs) (any_pair f x y))

  any-nil : (l : List ℕ) → any_pair f l [] ≡ false
  unfolding any_pair
  any-nil [] = refl
  any-nil (x ∷ xs) = refl

  any-split : (k : ℕ) (xs ys : List ℕ) → any_pair f xs ys ≡ (any_pair f (take k xs) (take k ys) || any_pair f (drop k xs) (drop k ys))
  unfolding any_pair
  any-split zero xs ys = refl
  any-split (suc k) [] ys = refl
  any-split (suc k) (x ∷ xs) [] = sym (any-nil (drop k xs))
  any-split (suc k) (x ∷ xs) (y ∷ ys) =
      ap (λ (b : Bool). f x y || b) (any-split k xs ys)
      ∙ sym (or_assoc (f x y) (any_pair f (take k xs) (take k ys)) (any_pair f (drop k xs) (drop k ys)))

-- ---- pairs that differ

pub any_same : (l : List ℕ) → any_pair unequal l l ≡ false
unfolding any_pair
any_same [] = refl
any_same (x ∷ xs) = rw (eq-eqb x x refl, any_same xs)

pub false_left : (a b : Bool) → (a || b) ≡ false → a ≡ false
false_left true b e = e
false_left false b e = refl

pub false_right : (a b : Bool) → (a || b) ≡ false → b ≡ false
false_right true b e = let z : true ≡ false = e in cc
false_right false b e = e

pub any_none : (xs ys : List ℕ) → length xs ≡ length ys → any_pair unequal xs ys ≡ false → xs ≡ ys
unfolding any_pair
any_none [] [] l e = refl
any_none [] (y ∷ ys) l e = absurd (suc-ne-zero (length ys) (sym l))
any_none (x ∷ xs) [] l e = absurd (suc-ne-zero (length xs) l)
any_none (x ∷ xs) (y ∷ ys) l e =
    ap₂ (λ (z : ℕ) (zs : List ℕ). z ∷ zs) (eqb-true x y (not-false (eqb x y) (false_left (unequal x y) (any_pair unequal xs ys) e)))
    (any_none xs ys (suc_inj l) (false_right (unequal x y) (any_pair unequal xs ys) e))

-- some pair differs exactly if the lists do, which is what `!=` of two slices answers
pub differing : (xs ys : List ℕ) → length xs ≡ length ys → not (pointwise eqb xs ys) ≡ any_pair unequal xs ys
unfolding any_pair
differing [] [] l = refl
differing [] (y ∷ ys) l = absurd (suc-ne-zero (length ys) (sym l))
differing (x ∷ xs) [] l = absurd (suc-ne-zero (length xs) l)
differing (x ∷ xs) (y ∷ ys) l = not_and (eqb x y) (pointwise eqb xs ys) ∙ ap (λ (b : Bool). unequal x y || b) (differing xs ys (suc_inj l))
  where
    not_and : (a b : Bool) → not (a && b) ≡ (not a || not b)
    not_and true b = refl
    not_and false b = refl

-- ---- a search block by block

-- a block in which it is found
pub found : (whole block rest : Bool) → whole ≡ (block || rest) → block ≡ true → whole ≡ true
found whole block rest e t = rw t at e

-- a block in which it is not
pub passed : (whole block rest : Bool) → whole ≡ (block || rest) → block ≡ false → whole ≡ rest
passed whole block rest e t = rw t at e

-- the pairs as blocks of n and what is left behind k of them
pub pair-blocks : (f : ℕ → ℕ → Bool) (n k : ℕ) (xs ys : List ℕ)
    → any_pair f xs ys ≡ (list_any (λ (p : List ℕ × List ℕ). any_pair f p.0 p.1) (zip (first_chunks n k xs) (first_chunks n k ys)) || any_pair f (drop (k * n) xs) (drop (k * n) ys))
pair-blocks f n zero xs ys = rw (zero-mul n)
pair-blocks f n (suc k) xs ys =
    let e : n + k * n ≡ suc k * n = omega arith in
    any-split f n xs ys
    ∙ ap (λ (b : Bool). any_pair f (take n xs) (take n ys) || b) (pair-blocks f n k (drop n xs) (drop n ys) ∙ rw (drop-drop (k * n) n xs, drop-drop (k * n) n ys, e))
    ∙ sym (or_assoc (any_pair f (take n xs) (take n ys)) (list_any (λ (p : List ℕ × List ℕ). any_pair f p.0 p.1) (zip (first_chunks n k (drop n xs)) (first_chunks n k (drop n ys))))
    (any_pair f (drop (suc k * n) xs) (drop (suc k * n) ys)))

-- some cell is not erased
abbrev pub written : List ℕ → Bool
written l = any_pair unequal l (replicate (length l) ff)

written-split : (k : ℕ) (l : List ℕ) → written l ≡ (written (take k l) || written (drop k l))
unfolding any_pair
written-split zero l = refl
written-split (suc k) [] = refl
written-split (suc k) (x ∷ xs) = ap (λ (b : Bool). unequal x ff || b) (written-split k xs) ∙ sym (or_assoc (unequal x ff) (written (take k xs)) (written (drop k xs)))

-- the block of k from i on, as the code lends it, and what is left behind it
pub fill-block : (l : List ℕ) (i k : ℕ) (b : Bool) → b ≡ written (take (i + k - i) (drop i l)) → written (drop i l) ≡ (b || written (drop (i + k) l))
fill-block l i k b e =
    let n : i + k - i ≡ k = omega arith in
    rw (e, n, ← drop-drop k i l) (written-split k (drop i l))
