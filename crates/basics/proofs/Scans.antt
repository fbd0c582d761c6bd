-- A loop that walks a list by its index. Its invariant says that the answer for the whole list is the answer for `drop i`,
-- or that what it has gathered is the answer for `take i`.
--     at-step      at an index below the length, what is left is the element and the rest
--     at-end       past the length nothing is left
--     take_more    what has been passed, one element more
-- Assumes nothing.
use mathlib.Core.Path.{◌≡◌, ap}
use mathlib.Core.List.{List, [], ◌∷◌, ◌++◌}
use Prim.Native.Nat.{ℕ, ◌+◌, ◌≤◌, ◌<◌}
use native.Mathlib.Numerals.{add-one}
use lib.ListN.{length, get_or, take, drop, drop_of_length-le}
use lib.Seq.{drop-cons, take-suc}

module _ {A B : Type 0} (f : List A → B) (s : List A) (i : ℕ) where
  pub at-step : (d : A) → i < length s → f (drop i s) ≡ f (get_or s i d ∷ drop (i + 1) s)
  at-step d h = rw (add-one, drop-cons s i d)

  pub at-end : length s ≤ i → f (drop i s) ≡ f []
  at-end h = ap f (drop_of_length-le s h)

pub take_more : {A : Type 0} (s : List A) (i : ℕ) (d : A) → i < length s → take (i + 1) s ≡ take i s ++ (get_or s i d ∷ [])
take_more s i d h = rw (add-one, take-suc s i d)
