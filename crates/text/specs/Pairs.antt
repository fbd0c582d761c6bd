-- Document 01, "Scripts and the two programs": "bytes (lower-case hexadecimal pairs ..)".
-- Definitions only; assumes nothing.
use Rattle.std.specs.Prelude.{Bool, true, cond, ◌&&◌, ◌||◌, List, [], ◌∷◌, ◌++◌, ℕ, ◌+◌, ◌-◌, ◌*◌, ◌/◌, ◌%◌, ◌<◌, length, drop, eqb, leb, ltb}
use Rattle.text.specs.Numbers.{is_digit}

-- the bytes 'a' to 'f'
unfoldable pub is_letter : ℕ → Bool
is_letter c = leb 97 c && leb c 102

-- "lower-case hexadecimal"
unfoldable pub is_hex : ℕ → Bool
is_hex c = is_digit c || is_letter c

unfoldable pub all_hex : List ℕ → Bool
all_hex [] = true
all_hex (c ∷ cs) = is_hex c && all_hex cs

-- "lower-case hexadecimal pairs": digits, and an even number of them; none is fine
unfoldable pub is_pairs : List ℕ → Bool
is_pairs f = all_hex f && eqb (length f % 2) 0

-- a digit's value; 0 for what is none
unfoldable pub hex_of : ℕ → ℕ
hex_of c = cond (is_digit c) (c - 48) (cond (is_letter c) (c - 87) 0)

-- the bytes that pairs stand for, the high half first
unfoldable pub pair_values : List ℕ → List ℕ
pair_values [] = []
pair_values (h ∷ []) = []
pair_values (h ∷ l ∷ r) = (hex_of h * 16 + hex_of l) ∷ pair_values r

-- the front of a list replaced by as many new elements
abbrev pub over : List ℕ → List ℕ → List ℕ
over new old = new ++ drop (length new) old

-- numbers that are bytes
abbrev pub AllBytes : List ℕ → Type 0
AllBytes [] = Unit {0}
AllBytes (b ∷ bs) = (b < 256) × AllBytes bs

-- a half of a byte as a digit
abbrev pub hex_digit : ℕ → ℕ
hex_digit d = cond (ltb d 10) (48 + d) (87 + d)

-- bytes as text
unfoldable pub pairs_text : List ℕ → List ℕ
pairs_text [] = []
pairs_text (b ∷ bs) = hex_digit (b / 16) ∷ hex_digit (b % 16) ∷ pairs_text bs
