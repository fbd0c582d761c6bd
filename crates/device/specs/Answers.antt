-- The bit rule, and what `postimage_of` answers. Definitions only; assumes nothing.
use Rattle.std.specs.Prelude.{Bool, true, false, Result, Ok, Err, cond, List, ℕ, length, leb}
use Rattle.basics.specs.Parts.{overlaid}
use Rattle.basics.specs.Replies.{number_in}
use Rattle.device.specs.declared.OneWayBits.{OneWayBits}
use Rattle.device.specs.declared.OneWayBits.TheVariants.{Absorbed, Rejected}

-- "Under rule `Rejected`, a byte with a 1 where its cell has 0 refuses the call ..; under `Absorbed` the AND happens."
abbrev pub rejects : OneWayBits → Bool
rejects Absorbed = false
rejects Rejected = true

-- ---- what programming would leave, written to a lent buffer

-- how many cells were written, or the number that refuses
pub record Copied : Type 0 where
  pub answer : Result ℕ ℕ
  pub buffer : List ℕ

-- the cells at the buffer's start and how many they are; "13: lent columns shorter than the result", and the buffer as it was
abbrev pub copied : (buffer cells : List ℕ) → Copied
copied buffer cells =
    cond (leb (length cells) (length buffer)) (record { answer = Ok (length cells); buffer = overlaid buffer 0 cells })
    (record { answer = Err 13; buffer = buffer })

-- "Where an answer is an enum, a definition gives this paper's number .. for each of its cases."
abbrev pub number_of_postimage : Result ℕ ℕ → ℕ
number_of_postimage answer = number_in (λ n. n) answer
