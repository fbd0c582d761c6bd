-- What is answered from the columns that are lent, with document 01's number and values of an answer: how many entries there
-- are, and ids written into a column. The crates above answer in the same words. Assumes nothing.
use Rattle.std.specs.Prelude.{Result, Ok, Err, cond, List, [], ◌∷◌, ◌++◌, ℕ, length, drop, eqb, leb}
use Rattle.basics.specs.Tests.{unless, first_of}
use Rattle.basics.specs.Replies.{answered}
use Rattle.model.specs.Columns.{ledger_of, refused}

-- how many entries the ledger has
unfoldable pub len_asked : (ids states torn : List ℕ) → Result ℕ ℕ
len_asked is ss ts = answered (refused is ss ts) (length (ledger_of is ss ts))

-- an answer, and the lent column as it is left
pub record Written : Type 0 where
  pub answer : Result ℕ ℕ
  pub column : List ℕ

-- ids written into a lent column from its front, unless a number refuses it: then the column is as it was
abbrev pub written_unless : ℕ → (result column : List ℕ) → Written
written_unless number result column =
    cond (eqb number 0)
    (record { answer = Ok (length result); column = result ++ drop (length result) column })
    (record { answer = Err number; column = column })

-- "13: lent columns shorter than the result", after 12
abbrev pub written : (refusal : ℕ) → (result column : List ℕ) → Written
written refusal result column = written_unless (first_of (refusal ∷ unless (leb (length result) (length column)) 13 ∷ [])) result column

-- document 01's number of an answer, 0 where nothing is refused, and the values that come with it
pub record Answer : Type 0 where
  pub number : ℕ
  pub values : List ℕ

abbrev pub list_numbers : Result ℕ ℕ → Answer
list_numbers (Err n) = record { number = n; values = [] }
list_numbers (Ok count) = record { number = 0; values = count ∷ [] }
