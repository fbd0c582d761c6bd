-- `has` is membership: `in-has` and `has_in`, with `out-has` for what is no member. Assumes nothing.
use mathlib.Core.Path.{◌≡◌, refl, sym, ◌∙◌}
use mathlib.Core.Logic.{◌⊎◌, inl, inr, ⊎_elim}
use mathlib.Core.Bool.{Bool, true, false, ◌||◌, true≢false}
use mathlib.Core.List.Memᴰ
use mathlib.Core.List.{List, [], ◌∷◌, Memᴰ}
use Prim.Native.Nat.{ℕ}
use lib.Dec.{eqb}
use borrow.Author.Tests.{eqb-true, eqb-false}
use Rattle.id_columns.specs.Ids.{has}

pub known : (b : Bool) → (b ≡ true) ⊎ (b ≡ false)
known true = inl refl
known false = inr refl

pub not-both : {b : Bool} → b ≡ true → b ≡ false → ⊥
not-both p q = true≢false (sym p ∙ q)

module _ (x : ℕ) where
  pub in-has : (l : List ℕ) → Memᴰ x l → has l x ≡ true
  unfolding has
  in-has [] m = absurd (Memᴰ.not-nil m)
  in-has (y ∷ ys) m = step (in-has ys) (eqb y x) refl (Memᴰ.cases_cons m)
    where
      step : (Memᴰ x ys → has ys x ≡ true) → (b : Bool) → eqb y x ≡ b → (x ≡ y) ⊎ Memᴰ x ys → (b || has ys x) ≡ true
      step r true t m = refl
      step r false f (inl e) = absurd (eqb-false y x f (sym e))
      step r false f (inr m) = r m

  pub has_in : (l : List ℕ) → has l x ≡ true → Memᴰ x l
  unfolding has
  has_in [] e = absurd (true≢false (sym e))
  has_in (y ∷ ys) e = step (has_in ys) (eqb y x) refl e
    where
      step : (has ys x ≡ true → Memᴰ x ys) → (b : Bool) → eqb y x ≡ b → (b || has ys x) ≡ true → Memᴰ x (y ∷ ys)
      step r true t e = Memᴰ.head (sym (eqb-true y x t))
      step r false f e = Memᴰ.tail (r e)

  pub out-has : (l : List ℕ) → (Memᴰ x l → ⊥) → has l x ≡ false
  out-has l n = ⊎_elim (λ (t : has l x ≡ true). absurd (n (has_in l t))) (λ (f : has l x ≡ false). f) (known (has l x))
