-- Document 01, "Scripts and the two programs": "Lines end in LF, fields are parted by tabs".
-- Definitions only; assumes nothing.
use Rattle.std.specs.Prelude.{cond, List, [], ◌∷◌, ℕ, eqb}

-- the two bytes that part a text
abbrev pub tab : ℕ
tab = 9

abbrev pub lf : ℕ
lf = 10

-- a line that an LF ends, without it; or what stands after the last LF: "a last line without LF"
pub data TextLine : Type 0 where
  ended : List ℕ → TextLine
  unended : List ℕ → TextLine

-- a byte put in front of the first line
abbrev pub onto_line : ℕ → List TextLine → List TextLine
onto_line x [] = unended (x ∷ []) ∷ []
onto_line x (ended l ∷ ls) = ended (x ∷ l) ∷ ls
onto_line x (unended l ∷ ls) = unended (x ∷ l) ∷ ls

-- "Lines end in LF": the lines of a text. An empty text has none.
unfoldable pub lines_of : List ℕ → List TextLine
lines_of [] = []
lines_of (x ∷ xs) = cond (eqb x lf) (ended [] ∷ lines_of xs) (onto_line x (lines_of xs))

-- a byte put in front of the first field
abbrev pub onto_field : ℕ → List (List ℕ) → List (List ℕ)
onto_field x [] = (x ∷ []) ∷ []
onto_field x (f ∷ fs) = (x ∷ f) ∷ fs

-- "fields are parted by tabs": the fields of a line, always one more than it has tabs
unfoldable pub fields_of : List ℕ → List (List ℕ)
fields_of [] = [] ∷ []
fields_of (x ∷ xs) = cond (eqb x tab) ([] ∷ fields_of xs) (onto_field x (fields_of xs))
