-- A list whose first n cells are filled, each by its index: what stands where, and that filling by a function that differs at one
-- index is a store there. Assumes nothing.
use mathlib.Core.Path.{◌≡◌, refl, sym, subst, ◌∙◌}
use mathlib.Core.Logic.{⊎_elim}
use mathlib.Core.List.{List}
use Prim.Native.Nat.{ℕ, zero, suc, ◌<◌, ◌≤◌}
use native.Mathlib.Omega.{arith}
use lib.ListN.{length, get_or, set, length-set}
use lib.Seq.{ext_get_or, get_or-set_same, get_or-set_other}
use Rattle.basics.proofs.Tests.{le-or-gt}

-- a list with `f i` at each i below n
abbrev pub fill : {A : Type 0} → (ℕ → A) → List A → (n : ℕ) → List A
fill f xs zero = xs
fill f xs (suc i) = set (fill f xs i) i (f i)

pub fill-length : {A : Type 0} (f : ℕ → A) (xs : List A) (n : ℕ) → length (fill f xs n) ≡ length xs
fill-length f xs zero = refl
fill-length f xs (suc i) = length-set (fill f xs i) i (f i) ∙ fill-length f xs i

no_lt_zero : {X : Type 0} (i : ℕ) → i < 0 → X
no_lt_zero i l = absurd (omega (arith, l))

same : (i m : ℕ) → i < suc m → m ≤ i → m ≡ i
same i m l h = omega (arith, l, h)

less : (m n : ℕ) → suc m ≤ n → m ≤ n
less m n h = omega (arith, h)

inside : (m n k : ℕ) → suc m ≤ n → k ≡ n → m < k
inside m n k h e = omega (arith, h, e)

pub fill-at : {A : Type 0} (d : A) (f : ℕ → A) (xs : List A) (n i : ℕ) → i < n → n ≤ length xs → get_or (fill f xs n) i d ≡ f i
fill-at d f xs zero i l h = no_lt_zero i l
fill-at d f xs (suc m) i l h =
    ⊎_elim
    (λ (g : m ≤ i). subst (λ (j : ℕ). get_or (set (fill f xs m) m (f m)) j d ≡ f j) (same i m l g) (get_or-set_same (fill f xs m) m (f m) d (inside m (length xs) (length (fill f xs m)) h (fill-length f xs m))))
    (λ (g : i < m). get_or-set_other (fill f xs m) m i (f m) d (λ (e : i ≡ m). omega (arith, e, g)) ∙ fill-at d f xs m i g (less m (length xs) h))
    (le-or-gt m i)

low : (i n k : ℕ) → i < k → k ≡ n → i < n
low i n k l e = omega (arith, l, e)

pub at_most : (n k : ℕ) → k ≡ n → n ≤ k
at_most n k e = omega (arith, e)

-- a list of n cells that is filled with the cells of another is the other
pub filled : {A : Type 0} (d : A) (f : ℕ → A) (xs ys : List A) (n : ℕ) → length xs ≡ n → length ys ≡ n → ((i : ℕ) → i < n → f i ≡ get_or ys i d) → fill f xs n ≡ ys
filled d f xs ys n p q g =
    ext_get_or d (fill f xs n) ys (fill-length f xs n ∙ p ∙ sym q) (λ i l. fill-at d f xs n i (low i n (length (fill f xs n)) l (fill-length f xs n ∙ p)) (at_most n (length xs) p) ∙ g i (low i n (length (fill f xs n)) l (fill-length f xs n ∙ p)))

-- what lies past those filled is as it was
pub fill-past : {A : Type 0} (d : A) (f : ℕ → A) (xs : List A) (n j : ℕ) → n ≤ j → get_or (fill f xs n) j d ≡ get_or xs j d
fill-past d f xs zero j h = refl
fill-past d f xs (suc m) j h =
    get_or-set_other (fill f xs m) m j (f m) d (λ (e : j ≡ m). omega (arith, e, h)) ∙ fill-past d f xs m j (less m j h)

within : (i n m k : ℕ) → i < n → n ≤ m → k ≡ m → i < k
within i n m k l h e = omega (arith, l, h, e)

one : (j i : ℕ) → j ≤ i → i ≤ j → i ≡ j
one j i h k = omega (arith, h, k)

-- two functions that agree but at i: filling by the one is filling by the other, and then a store at i
module _ {A : Type 0} (d : A) (f g : ℕ → A) (xs : List A) (n i : ℕ) (e : A) (inside-n : i < n) (room : n ≤ length xs) (at_i : g i ≡ e) (else : (j : ℕ) → (j ≡ i → ⊥) → g j ≡ f j) where
  stored-length : length (set (fill f xs n) i e) ≡ length xs
  stored-length = length-set (fill f xs n) i e ∙ fill-length f xs n

  there : get_or (fill g xs n) i d ≡ get_or (set (fill f xs n) i e) i d
  there = fill-at d g xs n i inside-n room ∙ at_i ∙ sym (get_or-set_same (fill f xs n) i e d (within i n (length xs) (length (fill f xs n)) inside-n room (fill-length f xs n)))

  apart : (j : ℕ) → (j ≡ i → ⊥) → get_or (fill g xs n) j d ≡ get_or (set (fill f xs n) i e) j d
  apart j ne =
      ⊎_elim
      (λ (h : n ≤ j). fill-past d g xs n j h ∙ sym (get_or-set_other (fill f xs n) i j e d ne ∙ fill-past d f xs n j h))
      (λ (h : j < n). fill-at d g xs n j h room ∙ else j ne ∙ sym (get_or-set_other (fill f xs n) i j e d ne ∙ fill-at d f xs n j h room))
      (le-or-gt n j)

  at_each : (j : ℕ) → get_or (fill g xs n) j d ≡ get_or (set (fill f xs n) i e) j d
  at_each j =
      ⊎_elim
      (λ (h : i ≤ j). ⊎_elim
      (λ (k : j ≤ i). subst (λ (m : ℕ). get_or (fill g xs n) m d ≡ get_or (set (fill f xs n) i e) m d) (one j i k h) there)
      (λ (k : i < j). apart j (λ (p : j ≡ i). omega (arith, p, k)))
      (le-or-gt j i))
      (λ (h : j < i). apart j (λ (p : j ≡ i). omega (arith, p, h)))
      (le-or-gt i j)

  pub fill-store : fill g xs n ≡ set (fill f xs n) i e
  fill-store = ext_get_or d (fill g xs n) (set (fill f xs n) i e) (fill-length g xs n ∙ sym stored-length) (λ j _. at_each j)
