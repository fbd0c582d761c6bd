-- A lent column of which the first n cells count. A store at n makes one more count and leaves the others.
-- Assumes nothing.
use mathlib.Core.Path.{◌≡◌}
use mathlib.Core.List.{List, [], ◌∷◌, ◌++◌}
use Prim.Native.Nat.{ℕ, suc, ◌+◌, ◌<◌}
use native.Mathlib.Numerals.{add-one}
use native.Mathlib.Nat.{le_refl}
use lib.ListN.{length, take, drop, set}
use lib.Seq.{take-suc-set, take-set-le, drop-set-lt}

module _ {A : Type 0} (column : List A) (n : ℕ) (value : A) where
  pub column-stored : n < length column → take (n + 1) (set column n value) ≡ take n column ++ (value ∷ [])
  column-stored h = rw add-one (take-suc-set column n value h)

  pub column-kept : take n (set column n value) ≡ take n column
  column-kept = take-set-le n column n value (le_refl n)

  pub column-rest : drop (n + 1) (set column n value) ≡ drop (n + 1) column
  column-rest = rw add-one (drop-set-lt (suc n) column n value (le_refl (suc n)))
