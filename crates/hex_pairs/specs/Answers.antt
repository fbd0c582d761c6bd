-- How many pairs a field is, with the place past the byte that ends it, and the bytes that pairs stand for, stored.
-- Definitions only; assumes nothing.
use Rattle.std.specs.Prelude.{cond, List, ℕ, ◌+◌, ◌/◌, length, take, drop, Option, Some, None}
use Rattle.text.specs.Fields.{Field, field, missing}
use Rattle.text.specs.Pairs.{is_pairs, pair_values, over}

-- how many pairs a field is, and the place past the byte that ends it; the field starts at `from`
abbrev pub pairs_at : (from : ℕ) → Field → Option (ℕ × ℕ)
pairs_at from (field f) = cond (is_pairs f) (Some (length f / 2, from + length f + 1)) None
pairs_at from missing = None

-- the bytes that the pairs from a place of a text on stand for, stored from the front of a buffer on: as many as it holds
abbrev pub decoded : (text : List ℕ) (from : ℕ) → List ℕ → List ℕ
decoded text from out = over (take (length out) (pair_values (drop from text))) out
