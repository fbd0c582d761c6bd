-- A list searched for a place, part by part. Assumes nothing.
use mathlib.Core.Path.{◌≡◌, refl, sym, ap, ◌∙◌}
use mathlib.Core.List.{List, [], ◌∷◌, ◌++◌}
use Prim.Native.Nat.{ℕ, zero, suc, ◌-◌, ◌≤◌, ◌<◌}
use native.Mathlib.Nat.{not-suc-le-zero, sub-zero, suc-sub-suc}
use native.Mathlib.Numerals.{sub-one}
use native.Mathlib.Omega.{arith}
use lib.ListN.{length, get_or}
use Rattle.inject.specs.declared.Injection.{Injection}
use Rattle.std.specs.Prelude.{Ok as At, Err as Past}
use Rattle.inject.specs.Steps.{Sought, sought, onward, lone_for}

-- ---- in the first part, or past it

pub sought-in : (xs ys : List Injection) (n : ℕ) (d : Injection) → n < length xs → sought (xs ++ ys) n ≡ At (get_or xs n d)
unfolding sought
sought-in [] ys n d h = absurd (not-suc-le-zero h)
sought-in (x ∷ xs) ys zero d h = refl
sought-in (x ∷ xs) ys (suc n) d h = sought-in xs ys n d (omega arith)

pub sought-past : (xs ys : List Injection) (n : ℕ) → length xs ≤ n → sought (xs ++ ys) n ≡ sought ys (n - length xs)
unfolding sought
sought-past [] ys n h = rw sub-zero
sought-past (x ∷ xs) ys zero h = absurd (not-suc-le-zero h)
sought-past (x ∷ xs) ys (suc n) h = rw suc-sub-suc (sought-past xs ys n (omega arith))

-- ---- a search goes on

onward-append : (b : Sought) (xs ys : List Injection) → onward b (xs ++ ys) ≡ onward (onward b xs) ys
unfolding sought
onward-append (At x) xs ys = refl
onward-append (Past n) [] ys = refl
onward-append (Past zero) (x ∷ xs) ys = refl
onward-append (Past (suc n)) (x ∷ xs) ys = onward-append (Past n) xs ys

pub onward-next : (b e : Sought) (xs ys : List Injection) → e ≡ onward b xs → onward b (xs ++ ys) ≡ onward e ys
onward-next b e xs ys q = onward-append b xs ys ∙ ap (λ (f : Sought). onward f ys) (sym q)

pub onward-here : (n : ℕ) (p : Injection) → n ≡ 0 → At p ≡ sought (p ∷ []) n
unfolding sought
onward-here n p e = rw e

pub onward-one : (n : ℕ) (p : Injection) → (n ≡ 0 → ⊥) → Past (n - 1) ≡ sought (p ∷ []) n
unfolding sought
onward-one zero p h = absurd (h refl)
onward-one (suc n) p h = rw sub-one

pub onward-none : (b : Sought) (n : ℕ) → (n ≡ 0 → ⊥) → b ≡ onward b (lone_for n)
unfolding sought
onward-none b zero h = absurd (h refl)
onward-none (At x) (suc n) h = refl
onward-none (Past m) (suc n) h = refl

-- ---- what a search through the whole list says

pub sought-at : (xs : List Injection) (n : ℕ) (p d : Injection) → sought xs n ≡ At p → (n < length xs) × (get_or xs n d ≡ p)
unfolding sought
sought-at [] n p d e = absurd (let z : ◌≡◌ {A = ℕ} 0 1 = cc in omega arith)
sought-at (x ∷ xs) zero p d e = (omega arith, cc)
sought-at (x ∷ xs) (suc n) p d e = let h = sought-at xs n p d e in (omega (arith, h.0), h.1)

pub sought-beyond : (xs : List Injection) (n m : ℕ) → sought xs n ≡ Past m → length xs ≤ n
unfolding sought
sought-beyond [] n m e = omega arith
sought-beyond (x ∷ xs) zero m e = absurd (let z : ◌≡◌ {A = ℕ} 0 1 = cc in omega arith)
sought-beyond (x ∷ xs) (suc n) m e = omega (arith, sought-beyond xs n m e)
