-- How long a number is as text, and the text written into a lent buffer.
-- Definitions only; assumes nothing.
use Rattle.std.specs.Prelude.{◌≡◌, cond, List, ℕ, ◌+◌, ◌≤◌, length, Option, Some as Next, None as NoRoom}
use Rattle.basics.specs.Parts.{within, overlaid}
use Rattle.text.specs.Numbers.{decimal_of}

-- how many digits a number has; they are few, so that a caller can add them up
pub record Places (n r : ℕ) : Type 0 where
  pub is : r ≡ length (decimal_of n)
  pub few : r ≤ 20

-- what is answered, the place past the digits or that there is no room, and the buffer then
pub record Print : Type 0 where
  pub reply : Option ℕ
  pub out : List ℕ

-- the digits from a place of the buffer on, and the place past them; where they do not fit nothing is written
abbrev pub printed_at : (n at : ℕ) → List ℕ → Print
printed_at n at out =
    cond (within out at (length (decimal_of n)))
    (record { reply = Next (at + length (decimal_of n)); out = overlaid out at (decimal_of n) })
    (record { reply = NoRoom; out = out })
