-- Text written into a lent buffer piece by piece: a cursor, and where it stands after some pieces.
-- Definitions only; assumes nothing.
use Rattle.std.specs.Prelude.{cond, List, [], ◌∷◌, ℕ, ◌+◌, length}
use Rattle.basics.specs.Parts.{within, overlaid}

-- one letter
abbrev pub letter : ℕ → List ℕ
letter c = c ∷ []

-- a place in a buffer, and the buffer
pub record Cursor : Type 0 where
  pub at : ℕ
  pub out : List ℕ

abbrev pub cursor : (at : ℕ) → (out : List ℕ) → Cursor
cursor at out = record { at = at; out = out }

-- bytes written where a cursor stands, which goes past them; where they do not fit nothing happens
unfoldable pub after : List ℕ → Cursor → Cursor
after bytes c =
    cond (within c.out c.at (length bytes)) (cursor (c.at + length bytes) (overlaid c.out c.at bytes)) c

-- pieces one after the other
unfoldable pub after_all : List (List ℕ) → Cursor → Cursor
after_all [] c = c
after_all (p ∷ ps) c = after_all ps (after p c)

-- a word, byte by byte
unfoldable pub letters : List ℕ → List (List ℕ)
letters [] = []
letters (x ∷ xs) = letter x ∷ letters xs

-- fields, each behind a tab
unfoldable pub tabbed : List (List ℕ) → List (List ℕ)
tabbed [] = []
tabbed (f ∷ fs) = letter 9 ∷ f ∷ tabbed fs
