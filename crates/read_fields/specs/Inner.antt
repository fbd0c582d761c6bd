-- What a private function answers. No public contract cites this.
-- Definitions only; assumes nothing.
use Rattle.std.specs.Prelude.{cond, List, [], ◌∷◌, ℕ, ◌+◌, ◌-◌, ◌*◌, eqb, leb, Option, Some, None}
use Rattle.text.specs.Numbers.{largest, is_digit}

-- the digits from a place on up to the byte `end`, which follow digits of value n
unfoldable pub digits_at : (at end n : ℕ) → List ℕ → Option (ℕ × ℕ)
digits_at at end n [] = None
digits_at at end n (b ∷ bs) =
    cond (eqb b end) (Some (n, at + 1))
    (cond (is_digit b)
    (cond (leb (n * 10 + (b - 48)) largest) (digits_at (at + 1) end (n * 10 + (b - 48)) bs) None)
    None)
