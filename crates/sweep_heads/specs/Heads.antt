-- What stands before the entries in a run's line of `sweep`, as the pieces that are written one after the other, and how long
-- a text is. Definitions only; assumes nothing.
use Rattle.std.specs.Prelude.{◌≡◌, List, [], ◌∷◌, ◌++◌, ℕ, ◌≤◌, length}
use Rattle.landing.specs.declared.Stop.{Stop}
use Rattle.session.specs.Armed.{Armed}
use Rattle.text.specs.Numbers.{decimal_of}
use Rattle.pieces.specs.Pieces.{tabbed}
use Rattle.lines.specs.Lines.{point_fields, stop_field}

-- place, kind, index, progress, stop and operations
unfoldable pub head_pieces : (place : ℕ) → Armed → Stop → (operations : ℕ) → List (List ℕ)
head_pieces place armed stop operations =
    decimal_of place ∷ (tabbed (point_fields armed) ++ tabbed (stop_field stop ∷ decimal_of operations ∷ []))

-- how many bytes there are; they are at most so many
pub record Few (most : ℕ) (bytes : List ℕ) (r : ℕ) : Type 0 where
  pub is : r ≡ length bytes
  pub few : r ≤ most
