-- Document 01, "Scripts and the two programs": "numbers are u32, decimal, without leading zeros".
-- Definitions only; assumes nothing.
use Rattle.std.specs.Prelude.{Bool, true, false, cond, not, ◌&&◌, List, [], ◌∷◌, ◌++◌, ℕ, zero, suc, ◌+◌, ◌-◌, ◌*◌, ◌/◌, ◌%◌, eqb, leb, ltb}

-- the largest u32
abbrev pub largest : ℕ
largest = 4294967295

-- the bytes '0' to '9'
unfoldable pub is_digit : ℕ → Bool
is_digit b = leb 48 b && leb b 57

unfoldable pub all_digits : List ℕ → Bool
all_digits [] = true
all_digits (b ∷ bs) = is_digit b && all_digits bs

-- "decimal": the value of digits that follow others of value n, the highest first
unfoldable pub value_from : ℕ → List ℕ → ℕ
value_from n [] = n
value_from n (b ∷ bs) = value_from (n * 10 + (b - 48)) bs

abbrev pub value_of : List ℕ → ℕ
value_of f = value_from 0 f

-- a zero in front of other digits; 0 itself is none
abbrev pub zero_led : List ℕ → Bool
zero_led [] = false
zero_led (b ∷ []) = false
zero_led (b ∷ c ∷ bs) = eqb b 48

-- "numbers are u32, decimal, without leading zeros"
unfoldable pub is_number : List ℕ → Bool
is_number [] = false
is_number (b ∷ bs) = all_digits (b ∷ bs) && (not (zero_led (b ∷ bs)) && leb (value_of (b ∷ bs)) largest)

-- what a field says as a number
pub data Decimal : Type 0 where
  number : ℕ → Decimal
  none : Decimal

unfoldable pub number_of : List ℕ → Decimal
number_of f = cond (is_number f) (number (value_of f)) none

-- a number in decimal, in at most so many digits
unfoldable pub decimal_in : (digits : ℕ) → ℕ → List ℕ
decimal_in zero n = []
decimal_in (suc k) n = cond (ltb n 10) ((48 + n) ∷ []) (decimal_in k (n / 10) ++ ((48 + n % 10) ∷ []))

-- a number as text: twenty digits are enough for every u64
abbrev pub decimal_of : ℕ → List ℕ
decimal_of n = decimal_in 20 n
