-- What is asked of a list of ids: whether one is among them, where it first stands, and whether one stands twice. Assumes
-- nothing.
use Rattle.std.specs.Prelude.{Bool, false, cond, ◌||◌, ℕ, suc, eqb, Option, None, Some, option_map}
use mathlib.Core.List.{List, [], ◌∷◌, Memᴰ}

-- x is one of the ids
unfoldable pub has : List ℕ → ℕ → Bool
has [] x = false
has (y ∷ ys) x = eqb y x || has ys x

-- where the first x stands, from 0
unfoldable pub place_of : ℕ → List ℕ → Option ℕ
place_of x [] = None
place_of x (y ∷ ys) = cond (eqb y x) (Some 0) (option_map suc (place_of x ys))

-- no id stands twice
abbrev pub Distinct : List ℕ → Type 0
Distinct [] = Unit {0}
Distinct (x ∷ xs) = (Memᴰ x xs → ⊥) × Distinct xs
