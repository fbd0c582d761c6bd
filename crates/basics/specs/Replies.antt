-- What a function answers, told by document 01's numbers: `number` gives those of its errors. Assumes nothing.
use Rattle.std.specs.Prelude.{Result, Ok, Err, cond, ℕ, eqb}

-- 0 where nothing is refused, else the error's number
abbrev pub number_in : {T E : Type 0} → (number : E → ℕ) → Result T E → ℕ
number_in number (Ok x) = 0
number_in number (Err e) = number e

-- the answer with the error's number in the place of the error
abbrev pub numbered : {T E : Type 0} → (number : E → ℕ) → Result T E → Result T ℕ
numbered number (Ok x) = Ok x
numbered number (Err e) = Err (number e)

-- what is answered where a test's number is `refused`: `x`, or the number that refuses
abbrev pub answered : {T : Type 0} → (refused : ℕ) → T → Result T ℕ
answered refused x = cond (eqb refused 0) (Ok x) (Err refused)
