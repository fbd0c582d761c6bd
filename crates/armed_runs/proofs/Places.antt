-- The run at a place, from what is found there. Assumes nothing.
use mathlib.Core.Path.{◌≡◌, refl, sym, ap, ◌∙◌}
use mathlib.Core.List.{List}
use Prim.Native.Nat.{ℕ, zero, suc, ◌-◌}
use native.Mathlib.Omega.{arith}
use Rattle.std.specs.Prelude.{Result}
use Rattle.storage.specs.declared.Geometry.{Geometry}
use Rattle.inject.specs.declared.Injection.{Injection}
use Rattle.inject.specs.Answers.{counted, found}
use Rattle.armed_runs.specs.Places.{armed_by, free_by, placed_at}

module _ (place : ℕ) (g : Geometry) (ks os ls : List ℕ) where
  pub place-first : place ≡ 0 → (r : Result ℕ ℕ) → r ≡ counted g ks os ls → free_by r ≡ placed_at place g ks os ls
  unfolding placed_at
  place-first e r q = rw e (ap free_by q)

  found_at : (n : ℕ) → n ≡ place → (place ≡ 0 → ⊥) → armed_by (found g ks os ls (place - 1)) ≡ placed_at n g ks os ls
  unfolding placed_at
  found_at zero e h = absurd (h (sym e))
  found_at (suc n) e h =
      let less : place - 1 ≡ n = omega arith in
      ap (λ (m : ℕ). armed_by (found g ks os ls m)) less

  pub place_found : (place ≡ 0 → ⊥) → (r : Result Injection ℕ) → r ≡ found g ks os ls (place - 1) → armed_by r ≡ placed_at place g ks os ls
  place_found h r e = ap armed_by e ∙ found_at place refl h
