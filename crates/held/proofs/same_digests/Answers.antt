-- `held::same_digests` meets its contract. Assumes nothing.
use mathlib.Core.Path.{◌≡◌, ◌∙◌}
use mathlib.Core.Bool.{Bool}
use mathlib.Core.List.{List}
use Prim.Native.Nat.{ℕ}
use lib.Dec.{eqb}
use lib.ListN.{take}
use lib.Pointwise.{pointwise}
use Rattle.held.specs.Held.{same}
use Rattle.held.proofs.Alike.{same-pointwise}
use Rattle.held.proofs.same_digests.Goals as goal

-- two columns as far as each is compared
cut : (xs ys : List ℕ) (d e m n : ℕ) → d ≡ m → e ≡ n → (r : Bool) → r ≡ pointwise eqb (take d xs) (take e ys) → r ≡ same eqb (take m xs) (take n ys)
cut xs ys d e m n p q r h = h ∙ same-pointwise eqb (take d xs) (take e ys) ∙ (λ i. same eqb (take (p i) xs) (take (q i) ys))

pub returns : goal.returns
returns c = cut _ _ _ _ _ _ c.end_of.ensures c.end_of-2.ensures _ c.eq.ensures
