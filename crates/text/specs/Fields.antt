-- A field where it stands in a text: from a place up to the byte that ends it, which for a script's field is a tab or an LF.
-- Definitions only; assumes nothing.
use Rattle.std.specs.Prelude.{cond, List, [], ◌∷◌, ℕ, eqb}

-- the bytes of a field, or that the byte that should end it is missing
pub data Field : Type 0 where
  field : List ℕ → Field
  missing : Field

-- a byte put in front of a field
abbrev pub onto : ℕ → Field → Field
onto x (field f) = field (x ∷ f)
onto x missing = missing

-- the field that a text starts with: what stands before the first byte `end`
unfoldable pub field_to : (end : ℕ) → List ℕ → Field
field_to end [] = missing
field_to end (x ∷ xs) = cond (eqb x end) (field []) (onto x (field_to end xs))
