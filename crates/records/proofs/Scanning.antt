-- Columns read to their end.
--     any-list                                     whether one is 1, as the library's search says it
--     last-found                                   one past the last that passes, as the library's search from the end says it
--     barrier-yes, barrier-no, barrier-end         the last barrier that answered 0: one operation more, and none left
-- Assumes nothing.
use mathlib.Core.Path.{◌≡◌, refl, sym, ap, ◌∙◌}
use mathlib.Core.Logic.{◌⊎◌, inl, inr}
use mathlib.Core.Bool.{Bool, true, false, ◌&&◌, ◌||◌}
use mathlib.Core.List.{List, [], ◌∷◌, ◌++◌}
use Prim.Native.Nat.{ℕ, zero, suc, ◌+◌, ◌-◌, ◌≤◌, ◌<◌}
use native.Mathlib.Nat.{suc-ne-zero}
use native.Mathlib.Numerals.{add-one}
use native.Mathlib.Omega.{arith}
use lib.Dec.{eqb}
use lib.ListN.{length, take, drop, get_or, length-drop}
use lib.Seq.{length-take-le, take_all, drop-cons}
use Rattle.std.specs.List.{list_any, IsAfterLastMatch}
use Rattle.std.proofs.lemmas.List.{get_or-drop}
use Rattle.std.proofs.lemmas.List.Folds.{list_any_none, list_any_at}
use Rattle.std.proofs.lemmas.Bool.{ltb-true, ltb-false}
use Rattle.basics.proofs.Scans.{take_more}
use Rattle.records.specs.Records.{any}
use Rattle.records.specs.Columns.{last_place, yes, ordering}
use Rattle.records.proofs.Places.{any-drop, last-yes, last-no}

pub any-list : {A : Type 0} (test : A → Bool) (xs : List A) → any test xs ≡ list_any test xs
unfolding any
any-list test [] = refl
any-list test (x ∷ xs) = ap (λ (b : Bool). test x || b) (any-list test xs)

pub last-found : (test : ℕ → Bool) (xs : List ℕ) (n : ℕ) → IsAfterLastMatch test xs n → n ≤ length xs → n ≡ last_place test xs
last-found test xs n m h = step n m h
  where
    past : (n : ℕ) → IsAfterLastMatch test xs n → last_place test xs ≤ n
    past n m =
        ltb-false n (last_place test xs)
        (sym (any-drop test n xs)
        ∙ any-list test (drop n xs)
        ∙ list_any_none test (drop n xs) (λ k d b. ap test (get_or-drop n xs k d) ∙ m.0 (n + k) d (omega arith) (let w = length-drop n xs in omega (arith, b, w))))

    step : (n : ℕ) → IsAfterLastMatch test xs n → n ≤ length xs → n ≡ last_place test xs
    step zero m h = let p = past 0 m in omega (arith, p)
    step (suc k) m h =
        let p = past (suc k) m in
        let one : suc k - 1 ≡ k + 0 = omega arith in
        let w = length-drop k xs in
        let q : k < last_place test xs =
        ltb-true k (last_place test xs)
        (sym (any-drop test k xs)
        ∙ any-list test (drop k xs)
        ∙ list_any_at test (drop k xs) 0 0 (omega (arith, w, h)) (ap test (get_or-drop k xs 0 0 ∙ ap (λ (j : ℕ). get_or xs j 0) (sym one)) ∙ m.1 (omega arith) 0)) in
        omega (arith, p, q)

-- ---- the last barrier that answered 0: n operations have been read, and the next is b

module _ (l : List Bool) (n : ℕ) (b : Bool) (rest : List Bool) (e : drop n l ≡ b ∷ rest) where
  inside : n < length l
  inside = let z : length l - n ≡ suc (length rest) = sym (length-drop n l) ∙ ap length e in omega arith

  split : ◌≡◌ {A = List Bool} (get_or l n false ∷ drop (suc n) l) (b ∷ rest)
  split = sym (drop-cons l n false inside) ∙ e

  passed : take (n + 1) l ≡ take n l ++ (b ∷ [])
  passed = let z : get_or l n false ≡ b = let s = split in cc in take_more l n false inside ∙ ap (λ (a : Bool). take n l ++ (a ∷ [])) z

  left : drop (n + 1) l ≡ rest
  left = let z : drop (suc n) l ≡ rest = let s = split in cc in ap (λ (k : ℕ). drop k l) (add-one n) ∙ z

  module _ (m : ℕ) (more : m ≡ n + 1) where
    pub barrier-yes : b ≡ true → (m ≡ last_place yes (take m l)) × (drop m l ≡ rest)
    barrier-yes t =
        rw more (sym (ap (last_place yes) passed ∙ last-yes yes (take n l) b t ∙ ap suc (length-take-le n l (omega (arith, inside))) ∙ sym (add-one n)), left)

    pub barrier-no : b ≡ false → (last_place yes (take n l) ≡ last_place yes (take m l)) × (drop m l ≡ rest)
    barrier-no f = rw more (sym (ap (last_place yes) passed ∙ last-no yes (take n l) b f), left)

ordering-none : (ks xs : List ℕ) → (length ks ≡ 0) ⊎ (length xs ≡ 0) → ordering ks xs ≡ []
unfolding ordering
ordering-none [] xs e = refl
ordering-none (k ∷ ks) [] e = refl
ordering-none (k ∷ ks) (x ∷ xs) (inl e) = absurd (suc-ne-zero _ e)
ordering-none (k ∷ ks) (x ∷ xs) (inr e) = absurd (suc-ne-zero _ e)

pub barrier-next : (ks xs : List ℕ) (k x : ℕ) (ks' xs' : List ℕ) → ks ≡ k ∷ ks' → xs ≡ x ∷ xs' → ordering ks xs ≡ (eqb k 2 && eqb x 1) ∷ ordering ks' xs'
unfolding ordering
barrier-next ks xs k x ks' xs' e f = rw (e, f) refl

pub barrier-end : (l : List Bool) (n : ℕ) (ks xs : List ℕ) → drop n l ≡ ordering ks xs → (length ks ≡ 0) ⊎ (length xs ≡ 0) → last_place yes (take n l) ≡ last_place yes l
barrier-end l n ks xs e z =
    let w : length l - n ≡ 0 = sym (length-drop n l) ∙ ap length (e ∙ ordering-none ks xs z) in
    ap (last_place yes) (take_all n l (omega arith))
