-- A digit, and a zero in front of others. Assumes nothing.
use mathlib.Core.Path.{◌≡◌, refl}
use mathlib.Core.Bool.{true, false}
use mathlib.Core.List.{List, [], ◌∷◌}
use Prim.Native.Nat.{ℕ, ◌≤◌}
use borrow.Author.Tests.{ne_eqb, le-leb}
use Rattle.text.specs.Numbers.{is_digit, zero_led}

pub digit-is : (d : ℕ) → 48 ≤ d → d ≤ 57 → is_digit d ≡ true
unfolding is_digit
digit-is d h k = simp (le-leb _ _ h, le-leb _ _ k)

pub not-led : (b : ℕ) (bs : List ℕ) → (b ≡ 48 → ⊥) → zero_led (b ∷ bs) ≡ false
not-led b [] n = refl
not-led b (c ∷ bs) n = ne_eqb _ _ n
