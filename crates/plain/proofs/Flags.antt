-- Booleans, and some element of a list that passes a test. Assumes nothing.
use mathlib.Core.Path.{◌≡◌, refl, sym, ◌∙◌}
use mathlib.Core.Logic.{◌⊎◌, inl, inr}
use mathlib.Core.Bool.{Bool, true, false, ◌&&◌, ◌||◌, false≢true, or_assoc}
use mathlib.Core.List.{List, [], ◌∷◌, ◌++◌}
use Rattle.records.specs.Records.{any}

pub first-true : (a b : Bool) → (a && b) ≡ true → a ≡ true
first-true true b e = refl
first-true false b e = e

pub second-true : (a b : Bool) → (a && b) ≡ true → b ≡ true
second-true true b e = e
second-true false b e = absurd (false≢true e)

pub either_true : (a b : Bool) → (a || b) ≡ true → (a ≡ true) ⊎ (b ≡ true)
either_true true b e = inl refl
either_true false b e = inr e

-- one of two is true, and it is not the second
pub only-first : (a b : Bool) → (a || b) ≡ true → b ≡ false → a ≡ true
only-first true b e n = refl
only-first false b e n = absurd (false≢true (sym n ∙ e))

pub any_append : {A : Type 0} (test : A → Bool) (xs ys : List A) → any test (xs ++ ys) ≡ (any test xs || any test ys)
unfolding any
any_append test [] ys = refl
any_append test (x ∷ xs) ys = rw (any_append test xs ys) (sym (or_assoc (test x) (any test xs) (any test ys)))
