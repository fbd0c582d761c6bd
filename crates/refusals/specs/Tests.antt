-- Document 01, "Numbers from the input": what refuses lent columns. Definitions only; assumes nothing.
use Rattle.std.specs.Prelude.{Bool, [], ◌∷◌, ℕ}
use Rattle.basics.specs.Tests.{refuse_if, first_of}

-- columns that are lent: 12, then 13
abbrev pub columns_test : (uneven short : Bool) → ℕ
columns_test uneven short = first_of (refuse_if uneven 12 ∷ refuse_if short 13 ∷ [])
