-- A line written into a lent buffer from a place on. Definitions only; assumes nothing.
use Rattle.std.specs.Prelude.{cond, List, [], ◌∷◌, ℕ, ◌+◌, length, eqb, Result, Ok as Past, Err as NotWritten}
use Rattle.basics.specs.Tests.{unless, first_of}
use Rattle.basics.specs.Parts.{within, overlaid}

-- the place past a line's LF; or the number that refuses it
abbrev pub Line : Type 0
Line = Result ℕ ℕ

-- what is answered, and the buffer then
pub record Put : Type 0 where
  pub reply : Line
  pub out : List ℕ

-- bytes from a place of the buffer on, and the place past them, unless a number refuses them: then the buffer is as it was
abbrev pub put_unless : (number : ℕ) → (bytes : List ℕ) → (at : ℕ) → (out : List ℕ) → Put
put_unless number bytes at out =
    cond (eqb number 0)
    (record { reply = Past (at + length bytes); out = overlaid out at bytes })
    (record { reply = NotWritten number; out = out })

-- "13: lent columns shorter than the result", after 12: the bytes do not fit into the buffer from that place on
abbrev pub put : (refusal : ℕ) → (bytes : List ℕ) → (at : ℕ) → (out : List ℕ) → Put
put refusal bytes at out = put_unless (first_of (refusal ∷ unless (within out at (length bytes)) 13 ∷ [])) bytes at out
