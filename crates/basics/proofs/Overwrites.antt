-- A loop that writes the list `new` over `old` from the front, one store a turn: after i turns it is `take i new ++ drop i old`.
--     over-next    the next element is still old's
--     over-more    a store of new's next element goes one turn further
--     over-all     after as many turns as both have elements it is new
-- Assumes nothing.
use mathlib.Core.Path.{◌≡◌, refl, ap}
use mathlib.Core.List.{List, [], ◌∷◌, ◌++◌, append-nil}
use Prim.Native.Nat.{ℕ, zero, suc, ◌+◌, ◌≤◌, ◌<◌}
use native.Mathlib.Nat.{not-suc-le-zero, le_of_suc-le-suc}
use native.Mathlib.Numerals.{add-one}
use lib.ListN.{length, take, drop, get_or, set, drop_of_length-le}
use lib.Seq.{take_all}

module _ {A : Type 0} where
  over-suc : (new old : List A) (i : ℕ) (d : A) → i < length new → i < length old
      → set (take i new ++ drop i old) i (get_or new i d) ≡ take (suc i) new ++ drop (suc i) old
  over-suc [] old i d h k = absurd (not-suc-le-zero h)
  over-suc (x ∷ xs) [] i d h k = absurd (not-suc-le-zero k)
  over-suc (x ∷ xs) (y ∷ ys) zero d h k = refl
  over-suc (x ∷ xs) (y ∷ ys) (suc i) d h k = ap (λ (l : List A). x ∷ l) (over-suc xs ys i d (le_of_suc-le-suc h) (le_of_suc-le-suc k))

  pub over-more : (new old l : List A) (i : ℕ) (v d : A) → i < length new → i < length old → l ≡ take i new ++ drop i old → v ≡ get_or new i d
      → set l i v ≡ take (i + 1) new ++ drop (i + 1) old
  over-more new old l i v d h k e q = rw (e, q, add-one i) (over-suc new old i d h k)

  pub over-next : (new old : List A) (i : ℕ) (d : A) → i < length new → i < length old → get_or (take i new ++ drop i old) i d ≡ get_or old i d
  over-next [] old i d h k = absurd (not-suc-le-zero h)
  over-next (x ∷ xs) [] i d h k = absurd (not-suc-le-zero k)
  over-next (x ∷ xs) (y ∷ ys) zero d h k = refl
  over-next (x ∷ xs) (y ∷ ys) (suc i) d h k = over-next xs ys i d (le_of_suc-le-suc h) (le_of_suc-le-suc k)

  pub over-all : (new old : List A) (i : ℕ) → length new ≤ i → length old ≤ i → take i new ++ drop i old ≡ new
  over-all new old i h k = rw (take_all i new h, drop_of_length-le old k) (append-nil new)
