-- What private functions answer. No public contract cites these.
-- Definitions only; assumes nothing.
use Rattle.std.specs.Prelude.{◌≡◌, cond, List, [], ◌∷◌, ℕ, suc, ◌+◌, ◌<◌, ◌≤◌, length, drop}
use Rattle.text.specs.Pairs.{is_hex, hex_of}

-- how many hexadecimal digits a text starts with
unfoldable pub hexes : List ℕ → ℕ
hexes [] = 0
hexes (x ∷ xs) = cond (is_hex x) (suc (hexes xs)) 0

-- a place that is reached from another over hexadecimal digits alone
pub record Skipped (s : List ℕ) (from r : ℕ) : Type 0 where
  pub low : from ≤ r
  pub high : r ≤ length s
  pub same : from + hexes (drop from s) ≡ r + hexes (drop r s)

-- the place where the hexadecimal digits end
pub record Stopped (s : List ℕ) (from r : ℕ) : Type 0 where
  pub low : from ≤ r
  pub high : r ≤ length s
  pub is : r ≡ from + hexes (drop from s)

-- a digit's value, and that it is half a byte
pub record Nibble (c r : ℕ) : Type 0 where
  pub is : r ≡ hex_of c
  pub small : r < 16
