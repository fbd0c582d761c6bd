-- The first breach by rising value is the breach of the least id that has one.
--     in-rising, rising-in     by rising value stand the same ids
--     rising-sorted            and they rise
--     least-is-first           the least id with a fault gives the first breach by rising value
-- Assumes nothing.
use mathlib.Core.Path.{◌≡◌, refl, ap, sym, ◌∙◌}
use mathlib.Core.Logic.{◌⊎◌, inl, inr, ⊎_elim}
use mathlib.Core.Bool.{Bool, true, false, cond}
use mathlib.Core.List.Memᴰ
use mathlib.Core.List.{List, [], ◌∷◌, map, Memᴰ}
use Prim.Native.Nat.{ℕ, min, ◌<◌, ◌≤◌}
use native.Mathlib.Omega.{arith}
use native.Mathlib.Nat.{min-eq_left, le_trans}
use lib.Dec.{leb}
use borrow.Author.Tests.{leb-true, leb-false}
use Rattle.std.specs.Prelude.{Option, None, Some, Ok, Err, filter, fold}
use Rattle.std.specs.List.{reduce}
use Rattle.std.specs.Result.{is_err}
use Rattle.oracle.specs.Verdict.{Verdict, Accepted, first_breach, insert, rising}
use Rattle.oracle.specs.Scans.{least_faulty}

-- the lesser of two ids, where there are any
abbrev lesser_of : Option ℕ → Option ℕ → Option ℕ
lesser_of None b = b
lesser_of (Some x) None = Some x
lesser_of (Some x) (Some y) = Some (min x y)

-- an id at which a test does not accept
abbrev faulty_id : (ℕ → Verdict) → ℕ → Option ℕ
faulty_id test x = cond (is_err (test x)) (Some x) None

-- what the test says at that id
abbrev pub verdict_at : (ℕ → Verdict) → Option ℕ → Verdict
verdict_at test None = Accepted
verdict_at test (Some x) = test x

-- ---- `lesser_of` in any grouping and order

pub lesser-none : (a : Option ℕ) → lesser_of a None ≡ a
lesser-none None = refl
lesser-none (Some x) = refl

min_assoc : (x y z : ℕ) → min x (min y z) ≡ min (min x y) z
min_assoc x y z = omega arith

min-swap : (x y : ℕ) → min x y ≡ min y x
min-swap x y = omega arith

lesser-assoc : (a b c : Option ℕ) → lesser_of a (lesser_of b c) ≡ lesser_of (lesser_of a b) c
lesser-assoc None b c = refl
lesser-assoc (Some x) None c = refl
lesser-assoc (Some x) (Some y) None = refl
lesser-assoc (Some x) (Some y) (Some z) = ap Some (min_assoc x y z)

lesser-comm : (a b : Option ℕ) → lesser_of a b ≡ lesser_of b a
lesser-comm None b = sym (lesser-none b)
lesser-comm (Some x) None = refl
lesser-comm (Some x) (Some y) = ap Some (min-swap x y)

lesser-swap : (a b c : Option ℕ) → lesser_of a (lesser_of b c) ≡ lesser_of b (lesser_of a c)
lesser-swap a b c = lesser-assoc a b c ∙ ap (λ (f : Option ℕ). lesser_of f c) (lesser-comm a b) ∙ sym (lesser-assoc b a c)

fold-lesser : (x : ℕ) (xs : List ℕ) → Some (fold min x xs) ≡ lesser_of (Some x) (reduce min xs)
fold-lesser x [] = refl
fold-lesser x (y ∷ ys) = fold-lesser (min x y) ys ∙ sym (lesser-assoc (Some x) (Some y) (reduce min ys)) ∙ ap (lesser_of (Some x)) (sym (fold-lesser y ys))

-- ---- by rising value

abbrev AtLeast : ℕ → List ℕ → Type 0
AtLeast x s = (y : ℕ) → Memᴰ y s → x ≤ y

abbrev pub Rising : List ℕ → Type 0
Rising [] = Unit {0}
Rising (x ∷ xs) = AtLeast x xs × Rising xs

in_insert : (x : ℕ) (s : List ℕ) (y : ℕ) → Memᴰ y (insert x s) → (y ≡ x) ⊎ Memᴰ y s
unfolding insert
in_insert x [] y m = Memᴰ.cases_cons m
in_insert x (z ∷ zs) y m = step (in_insert x zs y) (leb x z) m
  where
    step : (Memᴰ y (insert x zs) → (y ≡ x) ⊎ Memᴰ y zs) → (b : Bool) → Memᴰ y (cond b (x ∷ z ∷ zs) (z ∷ insert x zs)) → (y ≡ x) ⊎ Memᴰ y (z ∷ zs)
    step r true m = Memᴰ.cases_cons m
    step r false m =
        ⊎_elim
        (λ (q : y ≡ z). inr (Memᴰ.head q))
        (λ (m' : Memᴰ y (insert x zs)). ⊎_elim (λ (q : y ≡ x). inl q) (λ (m'' : Memᴰ y zs). inr (Memᴰ.tail m'')) (r m'))
        (Memᴰ.cases_cons m)

insert-in : (x : ℕ) (s : List ℕ) (y : ℕ) → (y ≡ x) ⊎ Memᴰ y s → Memᴰ y (insert x s)
unfolding insert
insert-in x [] y (inl q) = Memᴰ.head q
insert-in x [] y (inr m) = absurd (Memᴰ.not-nil m)
insert-in x (z ∷ zs) y w = step (insert-in x zs y) (leb x z) w
  where
    step : ((y ≡ x) ⊎ Memᴰ y zs → Memᴰ y (insert x zs)) → (b : Bool) → (y ≡ x) ⊎ Memᴰ y (z ∷ zs) → Memᴰ y (cond b (x ∷ z ∷ zs) (z ∷ insert x zs))
    step r true (inl q) = Memᴰ.head q
    step r true (inr m) = Memᴰ.tail m
    step r false (inl q) = Memᴰ.tail (r (inl q))
    step r false (inr m) = ⊎_elim (λ (q : y ≡ z). Memᴰ.head q) (λ (m' : Memᴰ y zs). Memᴰ.tail (r (inr m'))) (Memᴰ.cases_cons m)

pub in-rising : (s : List ℕ) (y : ℕ) → Memᴰ y (rising s) → Memᴰ y s
unfolding rising
in-rising [] y m = m
in-rising (x ∷ xs) y m = ⊎_elim (λ (q : y ≡ x). Memᴰ.head q) (λ (m' : Memᴰ y (rising xs)). Memᴰ.tail (in-rising xs y m')) (in_insert x (rising xs) y m)

pub rising-in : (s : List ℕ) (y : ℕ) → Memᴰ y s → Memᴰ y (rising s)
unfolding rising
rising-in [] y m = m
rising-in (x ∷ xs) y m = insert-in x (rising xs) y (⊎_elim (λ (q : y ≡ x). inl q) (λ (m' : Memᴰ y xs). inr (rising-in xs y m')) (Memᴰ.cases_cons m))

insert-rising : (x : ℕ) (s : List ℕ) → Rising s → Rising (insert x s)
unfolding insert
insert-rising x [] g = ((λ y m. absurd (Memᴰ.not-nil m)), tt)
insert-rising x (z ∷ zs) g = step (insert-rising x zs g.1) (leb x z) refl
  where
    step : Rising (insert x zs) → (b : Bool) → leb x z ≡ b → Rising (cond b (x ∷ z ∷ zs) (z ∷ insert x zs))
    step r true t = (
      (λ y m. ⊎_elim
          (λ (q : y ≡ z). let h : x ≤ z = leb-true x z t in omega arith)
          (λ (m' : Memᴰ y zs). le_trans (leb-true x z t) (g.0 y m'))
          (Memᴰ.cases_cons m)),
      g,
    )
    step r false t = (
      (λ y m. ⊎_elim
          (λ (q : y ≡ x). let h : z < x = leb-false x z t in omega arith)
          (λ (m' : Memᴰ y zs). g.0 y m')
          (in_insert x zs y m)),
      r,
    )

pub rising-sorted : (s : List ℕ) → Rising (rising s)
unfolding rising
rising-sorted [] = tt
rising-sorted (x ∷ xs) = insert-rising x (rising xs) (rising-sorted xs)

-- ---- the least id at which a test does not accept

module _ (test : ℕ → Verdict) where
  -- the least of a list, and of what is left of it
  least-more : (x : ℕ) (xs : List ℕ) → least_faulty test (x ∷ xs) ≡ lesser_of (faulty_id test x) (least_faulty test xs)
  unfolding least_faulty
  least-more x xs = step (is_err (test x))
    where
      step : (b : Bool) → reduce min (cond b (x ∷ filter (λ x. is_err (test x)) xs) (filter (λ x. is_err (test x)) xs)) ≡ lesser_of (cond b (Some x) None) (reduce min (filter (λ x. is_err (test x)) xs))
      step true = fold-lesser x (filter (λ x. is_err (test x)) xs)
      step false = refl

  least-none : least_faulty test [] ≡ None
  unfolding least_faulty
  least-none = refl

  below_one : (x y : ℕ) (b : Bool) → x ≤ y → lesser_of (Some x) (cond b (Some y) None) ≡ Some x
  below_one x y true h = ap Some (min-eq_left h)
  below_one x y false h = refl

  below-least : (x : ℕ) (s : List ℕ) → AtLeast x s → lesser_of (Some x) (least_faulty test s) ≡ Some x
  below-least x [] g = ap (lesser_of (Some x)) least-none
  below-least x (y ∷ ys) g =
      ap (lesser_of (Some x)) (least-more y ys)
      ∙ lesser-assoc (Some x) (faulty_id test y) (least_faulty test ys)
      ∙ ap (λ (f : Option ℕ). lesser_of f (least_faulty test ys)) (below_one x y (is_err (test y)) (g y (Memᴰ.head refl)))
      ∙ below-least x ys (λ z m. g z (Memᴰ.tail m))

  -- on a rising list the least is the first
  first-least : (s : List ℕ) → Rising s → first_breach (map test s) ≡ verdict_at test (least_faulty test s)
  unfolding first_breach
  first-least [] g = ap (verdict_at test) (sym least-none)
  first-least (x ∷ xs) g = step (first-least xs g.1) (test x) refl ∙ ap (verdict_at test) (sym (least-more x xs))
    where
      step : first_breach (map test xs) ≡ verdict_at test (least_faulty test xs) → (v : Verdict) → test x ≡ v → first_breach (v ∷ map test xs) ≡ verdict_at test (lesser_of (cond (is_err v) (Some x) None) (least_faulty test xs))
      step r (Ok u) e = r
      step r (Err b) e = sym e ∙ ap (verdict_at test) (sym (below-least x xs g.0))

  -- and order does not change the least
  least-insert : (x : ℕ) (s : List ℕ) → least_faulty test (insert x s) ≡ lesser_of (faulty_id test x) (least_faulty test s)
  unfolding insert
  least-insert x [] = least-more x []
  least-insert x (y ∷ ys) = step (least-insert x ys) (leb x y) ∙ ap (lesser_of (faulty_id test x)) (sym (least-more y ys))
    where
      step : least_faulty test (insert x ys) ≡ lesser_of (faulty_id test x) (least_faulty test ys) → (b : Bool)
          → least_faulty test (cond b (x ∷ y ∷ ys) (y ∷ insert x ys)) ≡ lesser_of (faulty_id test x) (lesser_of (faulty_id test y) (least_faulty test ys))
      step r true = least-more x (y ∷ ys) ∙ ap (lesser_of (faulty_id test x)) (least-more y ys)
      step r false = least-more y (insert x ys) ∙ ap (lesser_of (faulty_id test y)) r ∙ lesser-swap (faulty_id test y) (faulty_id test x) (least_faulty test ys)

  least-rising : (s : List ℕ) → least_faulty test (rising s) ≡ least_faulty test s
  unfolding rising
  least-rising [] = refl
  least-rising (x ∷ xs) = least-insert x (rising xs) ∙ ap (lesser_of (faulty_id test x)) (least-rising xs) ∙ sym (least-more x xs)

  pub least-is-first : (h : List ℕ) → first_breach (map test (rising h)) ≡ verdict_at test (least_faulty test h)
  least-is-first h = first-least (rising h) (rising-sorted h) ∙ ap (verdict_at test) (least-rising h)
