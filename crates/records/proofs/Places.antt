-- One past the last element that passes a test.
--     last-le, last_none              it is at most the length; 0 where none passes
--     last-yes, last-no               one element more at the end
--     behind-drop                     what stands behind the last one
--     any-drop                        some element from n on passes exactly if n is below it
--     follows                         all at once: what the state's rule asks, by two places
--     any-more, any-map, last-map     the tests over a column
-- Assumes nothing.
use mathlib.Core.Path.{◌≡◌, refl, sym, ap, ap₂, ◌∙◌}
use mathlib.Core.Bool.{Bool, true, false, ◌&&◌, ◌||◌, cond, or-false, or-true, or_assoc}
use mathlib.Core.List.{List, [], ◌∷◌, ◌++◌, map}
use Prim.Native.Nat.{ℕ, zero, suc, ◌+◌, ◌≤◌, zero-le, suc-le-suc}
use lib.Dec.{ltb, leb-suc-zero, leb-suc-suc}
use lib.ListN.{length, take, drop, take-append-drop}
use lib.Seq.{drop-append-le, drop-drop}
use borrow.Author.Tests.{lt-ltb}
use Rattle.records.specs.Records.{any, behind}
use Rattle.records.specs.Columns.{last_place, followed_at}

right-false : (a b : Bool) → (a || b) ≡ false → b ≡ false
right-false true b e = let z : true ≡ false = e in cc
right-false false b e = e

module _ {A : Type 0} (test : A → Bool) where
  any-cons : (x : A) (xs : List A) → any test (x ∷ xs) ≡ (test x || any test xs)
  unfolding any
  any-cons x xs = refl

  any_append : (xs ys : List A) → any test (xs ++ ys) ≡ (any test xs || any test ys)
  unfolding any
  any_append [] ys = refl
  any_append (x ∷ xs) ys = ap (λ (b : Bool). test x || b) (any_append xs ys) ∙ sym (or_assoc (test x) (any test xs) (any test ys))

  -- one element more
  pub any-more : (xs : List A) (x : A) → any test (xs ++ (x ∷ [])) ≡ (any test xs || test x)
  unfolding any
  any-more xs x = any_append xs (x ∷ []) ∙ ap (λ (b : Bool). any test xs || b) (or-false (test x))

  -- ---- one past the last

  pub last_none : (xs : List A) → any test xs ≡ false → last_place test xs ≡ 0
  unfolding last_place
  last_none [] e = refl
  last_none (x ∷ xs) e = rw e

  le_step : (b : Bool) (n m : ℕ) → n ≤ m → cond b (suc n) 0 ≤ suc m
  le_step true n m h = suc-le-suc h
  le_step false n m h = zero-le

  pub last-le : (xs : List A) → last_place test xs ≤ length xs
  unfolding last_place
  last-le [] = zero-le
  last-le (x ∷ xs) = le_step (any test (x ∷ xs)) (last_place test xs) (length xs) (last-le xs)

  pub last-yes : (xs : List A) (x : A) → test x ≡ true → last_place test (xs ++ (x ∷ [])) ≡ suc (length xs)
  unfolding last_place
  last-yes [] x e = let t : any test (x ∷ []) ≡ true = any-cons x [] ∙ rw e in rw t
  last-yes (y ∷ ys) x e =
      let t : any test (y ∷ (ys ++ (x ∷ []))) ≡ true = any-more (y ∷ ys) x ∙ rw e (or-true (any test (y ∷ ys))) in
      rw t (ap suc (last-yes ys x e))

  pub last-no : (xs : List A) (x : A) → test x ≡ false → last_place test (xs ++ (x ∷ [])) ≡ last_place test xs
  unfolding last_place any
  last-no [] x e = last_none (x ∷ []) (any-more [] x ∙ rw e (or-false (any test [])))
  last-no (y ∷ ys) x e =
      let t : any test (y ∷ (ys ++ (x ∷ []))) ≡ any test (y ∷ ys) = any-more (y ∷ ys) x ∙ rw e (or-false (any test (y ∷ ys))) in
      rw (t, last-no ys x e)

  behind-step : (b : Bool) (x : A) (xs : List A) → behind test xs ≡ drop (last_place test xs) xs
      → cond b (behind test xs) (x ∷ xs) ≡ drop (cond b (suc (last_place test xs)) 0) (x ∷ xs)
  behind-step true x xs h = h
  behind-step false x xs h = refl

  pub behind-drop : (xs : List A) → behind test xs ≡ drop (last_place test xs) xs
  unfolding behind last_place
  behind-drop [] = refl
  behind-drop (x ∷ xs) = behind-step (any test (x ∷ xs)) x xs (behind-drop xs)

  first_step : (b : Bool) (n : ℕ) → b ≡ ltb 0 (cond b (suc n) 0)
  first_step true n = sym (lt-ltb 0 (suc n) (suc-le-suc zero-le))
  first_step false n = refl

  later-step : (b left : Bool) (n m : ℕ) → left ≡ ltb n m → (b ≡ false → m ≡ 0) → left ≡ ltb (suc n) (cond b (suc m) 0)
  later-step true left n m h z = h ∙ sym (leb-suc-suc (suc n) m)
  later-step false left n m h z = h ∙ ap (ltb n) (z refl) ∙ leb-suc-zero n ∙ sym (leb-suc-zero (suc n))

  none_first : any test [] ≡ ltb 0 (last_place test [])
  unfolding any last_place
  none_first = refl

  none-later : (n : ℕ) → any test [] ≡ ltb (suc n) (last_place test [])
  unfolding any last_place
  none-later n = sym (leb-suc-zero (suc n))

  pub any-drop : (n : ℕ) (xs : List A) → any test (drop n xs) ≡ ltb n (last_place test xs)
  unfolding last_place
  any-drop zero [] = none_first
  any-drop zero (x ∷ xs) = first_step (any test (x ∷ xs)) (last_place test xs)
  any-drop (suc n) [] = none-later n
  any-drop (suc n) (x ∷ xs) =
      later-step (any test (x ∷ xs)) (any test (drop n xs)) n (last_place test xs) (any-drop n xs)
      (λ e. last_none xs (right-false (test x) (any test xs) (sym (any-cons x xs) ∙ e)))

-- k operations from `from` on are the record's own
module _ {A : Type 0} (writes orders : A → Bool) (ops : List A) (from k : ℕ) where
  -- a barrier that answered 0 behind the last program or erase, or behind the record's mark where there is none
  stands-behind : any orders (behind writes (take k (drop from ops)) ++ drop k (drop from ops))
      ≡ ltb (from + last_place writes (take k (drop from ops))) (last_place orders ops)
  stands-behind =
      let own = take k (drop from ops) in
      let p = last_place writes own in
      ap (λ (l : List A). any orders (l ++ drop k (drop from ops))) (behind-drop writes own)
      ∙ ap (any orders)
      (sym (drop-append-le p own (drop k (drop from ops)) (last-le writes own))
      ∙ ap (drop p) (take-append-drop k (drop from ops))
      ∙ drop-drop p from ops)
      ∙ any-drop orders (from + p) ops

  -- "a barrier that answered 0 follows its last program or erase"
  pub follows : (any writes (take k (drop from ops)) && any orders (behind writes (take k (drop from ops)) ++ drop k (drop from ops)))
      ≡ followed_at from (last_place writes (take k (drop from ops))) (last_place orders ops)
  follows = ap₂ (λ (a b : Bool). a && b) (any-drop writes 0 (take k (drop from ops))) stands-behind

-- ---- over a column

module _ {A B : Type 0} (f : A → B) (test : B → Bool) where
  pub any-map : (xs : List A) → any (λ (x : A). test (f x)) xs ≡ any test (map f xs)
  unfolding any
  any-map [] = refl
  any-map (x ∷ xs) = ap (λ (b : Bool). test (f x) || b) (any-map xs)

  pub last-map : (xs : List A) → last_place (λ (x : A). test (f x)) xs ≡ last_place test (map f xs)
  unfolding last_place
  last-map [] = refl
  last-map (x ∷ xs) = rw (any-map (x ∷ xs), last-map xs)
