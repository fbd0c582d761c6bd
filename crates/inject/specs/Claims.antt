-- The words of the theorems on the list of crash points (proofs/Formula.antt, Members.antt, Distinct.antt).
-- Definitions only; assumes nothing.
use Rattle.std.specs.Prelude.{◌≡◌, ◌⊎◌, ℕ, ◌+◌, ◌-◌, ◌/◌, ◌<◌, length, get_or}
use mathlib.Core.List.{List, [], ◌∷◌, Memᴰ}
use Rattle.storage.specs.declared.Geometry.{Geometry}
use Rattle.inject.specs.declared.Op.{Op}
use Rattle.inject.specs.declared.Op.TheVariants.{Barrier}
use Rattle.inject.specs.declared.Progress.TheVariants.{Bytes}
use Rattle.inject.specs.declared.Interruption.TheVariants.{PowerLoss, Watchdog, Failure}
use Rattle.inject.specs.declared.Injection.{Injection}
use Rattle.inject.specs.Ops.{len_of}
use Rattle.inject.specs.Points.{progresses}

-- ⌈L/P⌉
abbrev pub ceil : ℕ → ℕ → ℕ
ceil l p = (l + (p - 1)) / p

-- how many points an operation gives, under the three interruptions together
abbrev pub given : Geometry → Op → ℕ
given g o = length (progresses g PowerLoss o) + length (progresses g Watchdog o) + length (progresses g Failure o)

-- a sum over a list
unfoldable pub sum_of : {A : Type 0} → (A → ℕ) → List A → ℕ
sum_of f [] = 0
sum_of f (x ∷ xs) = f x + sum_of f xs

-- no element is a member of the rest
unfoldable pub Distinct : {A : Type 0} → List A → Type 0
Distinct [] = Unit
Distinct (x ∷ xs) = (Memᴰ x xs → ⊥) × Distinct xs

-- an index below the number of operations, or 0 for an empty list
abbrev pub IndexIn : List Op → Injection → Type 0
IndexIn os p = (p.op < length os) ⊎ ((length os ≡ 0) × (p.op ≡ 0))

-- a byte count above 0 and below its operation's length
abbrev pub CountIn : List Op → Injection → Type 0
CountIn os p = (n : ℕ) → p.progress ≡ Bytes n → (0 < n) × (n < len_of (get_or os p.op Barrier))
