-- What the private functions of `src/` answer. No public contract cites these. Definitions only; assumes nothing.
use Rattle.std.specs.Prelude.{Bool, ◌&&◌, ◌||◌, ℕ, leb, ltb}

-- a row that marks a range behind so many operations
abbrev pub is_behind : (kind from to operations : ℕ) → Bool
is_behind kind from to operations = leb 5 kind && (ltb from operations || ltb to operations)
