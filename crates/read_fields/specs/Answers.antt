-- What a field says, and the place past the byte that ends it. Definitions only; assumes nothing.
use Rattle.std.specs.Prelude.{[], ◌∷◌, ℕ, ◌+◌, length, Option, Some, None}
use Rattle.text.specs.Fields.{Field, field, missing}
use Rattle.text.specs.Numbers.{Decimal, number, none, number_of}

-- a field that is one byte, and the place past the byte that ends it; the field starts at `from`
abbrev pub letter_at : (from : ℕ) → Field → Option (ℕ × ℕ)
letter_at from (field []) = None
letter_at from (field (x ∷ [])) = Some (x, from + 2)
letter_at from (field (x ∷ y ∷ f)) = None
letter_at from missing = None

-- a number, and the place past the byte that ends it
abbrev pub number_then : Decimal → (next : ℕ) → Option (ℕ × ℕ)
number_then (number v) next = Some (v, next)
number_then none next = None

-- a field as a number; the field starts at `from`
abbrev pub number_at : (from : ℕ) → Field → Option (ℕ × ℕ)
number_at from (field f) = number_then (number_of f) (from + length f + 1)
number_at from missing = None
