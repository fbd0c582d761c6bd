-- Elements of lists.
--     get_or-map-lt                                        the element at a place of a mapped list
--     take-lower, take-few                               as many of a list's first elements as there are
--     Each, each_none, each-cons, each_append, each_map    what is true of every member
-- Assumes nothing.
use mathlib.Core.Path.{◌≡◌, refl, sym, ap, subst⁻¹, ◌∙◌}
use mathlib.Core.Logic.{⊎_elim}
use mathlib.Core.List.Memᴰ
use mathlib.Core.List.{List, [], ◌∷◌, ◌++◌, map, Memᴰ}
use Prim.Native.Nat.{ℕ, zero, suc, ◌<◌, min}
use native.Mathlib.Nat.{not-suc-le-zero}
use native.Mathlib.Omega.{arith}
use lib.ListN.{length, take, get_or}
use lib.Seq.{take-nil}

-- ---- by place

pub get_or-map-lt : {A B : Type 0} (f : A → B) (l : List A) (i : ℕ) (d : A) (e : B) → i < length l → get_or (map f l) i e ≡ f (get_or l i d)
get_or-map-lt f [] i d e h = absurd (not-suc-le-zero h)
get_or-map-lt f (a ∷ l) zero d e h = refl
get_or-map-lt f (a ∷ l) (suc i) d e h = get_or-map-lt f l i d e (omega arith)

-- ---- the first elements, as many as there are

pub take-lower : (rows : ℕ) (xs : List ℕ) → take (min rows (length xs)) xs ≡ take rows xs
take-lower zero xs = ap (λ (n : ℕ). take n xs) none
  where
    none : min 0 (length xs) ≡ 0
    none = omega arith
take-lower (suc rows) [] = ap (λ (n : ℕ). take n []) none ∙ sym (take-nil (suc rows))
  where
    none : min (suc rows) 0 ≡ 0
    none = omega arith
take-lower (suc rows) (x ∷ xs) = ap (λ (n : ℕ). take n (x ∷ xs)) more ∙ ap {B = List ℕ} (λ (l : List ℕ). x ∷ l) (take-lower rows xs)
  where
    more : min (suc rows) (suc (length xs)) ≡ suc (min rows (length xs))
    more = omega arith

pub take-few : (xs : List ℕ) (size count n : ℕ) → length xs ≡ size → n ≡ min count size → take n xs ≡ take count xs
take-few xs size count n l m = ap (λ (j : ℕ). take j xs) (m ∙ ap (min count) (sym l)) ∙ take-lower count xs

-- ---- every member of a list

abbrev pub Each : {A : Type 0} → (A → Type 0) → List A → Type 0
Each {A} P xs = (x : A) → Memᴰ x xs → P x

pub each_append : {A : Type 0} (P : A → Type 0) (xs ys : List A) → Each P xs → Each P ys → Each P (xs ++ ys)
each_append P xs ys p q x m = ⊎_elim (p x) (q x) (Memᴰ.append_cases xs m)

pub each-cons : {A : Type 0} (P : A → Type 0) (y : A) (ys : List A) → P y → Each P ys → Each P (y ∷ ys)
each-cons P y ys p q x m = ⊎_elim (λ e. subst⁻¹ P e p) (q x) (Memᴰ.cases_cons m)

pub each_none : {A : Type 0} (P : A → Type 0) → Each P []
each_none P x m = absurd (Memᴰ.not-nil m)

pub each_map : {A B : Type 0} (P : B → Type 0) (f : A → B) (xs : List A) → Each (λ a. P (f a)) xs → Each P (map f xs)
each_map P f [] p = each_none P
each_map P f (a ∷ xs) p =
    each-cons P (f a) (map f xs) (p a (Memᴰ.head refl)) (each_map P f xs (λ x m. p x (Memᴰ.tail m)))
