-- Tests that refuse by a number, and what a test counts for in a column. Assumes nothing.
use Rattle.std.specs.Prelude.{Bool, true, false, cond, List, [], ◌∷◌, ℕ, eqb}

-- 0 where the test holds, else the number that refuses
unfoldable pub unless : Bool → ℕ → ℕ
unless true number = 0
unless false number = number

-- the number that refuses where the fault is there, else 0
unfoldable pub refuse_if : Bool → ℕ → ℕ
refuse_if true number = number
refuse_if false number = 0

-- the first that is not 0, or 0: which of several tests, in order, refuses
unfoldable pub first_of : List ℕ → ℕ
first_of [] = 0
first_of (n ∷ ns) = cond (eqb n 0) (first_of ns) n

-- a yes or no as a column holds it
abbrev pub flag : Bool → ℕ
flag true = 1
flag false = 0
