-- What is answered of an id's first entry, from the columns that are lent, with document 01's number and values of each answer.
-- Assumes nothing.
use Rattle.std.specs.Prelude.{Bool, List, [], ◌∷◌, ℕ, Option, None, Some, Result, Ok, Err}
use Rattle.basics.specs.Tests.{flag}
use Rattle.basics.specs.Replies.{answered}
use Rattle.model.specs.Ledger.{Entry, code_of, is_torn, lookup}
use Rattle.model.specs.Columns.{ledger_of, refused}
use Rattle.model.specs.Answers.{Answer}
use Rattle.model.specs.declared.Durability.{Durability}

-- the state of an id's first entry
abbrev pub state_found : Option Entry → Option Durability
state_found None = None
state_found (Some e) = Some e.state

unfoldable pub state_asked : (ids states torn : List ℕ) → ℕ → Result (Option Durability) ℕ
state_asked is ss ts x = answered (refused is ss ts) (state_found (lookup x (ledger_of is ss ts)))

-- torn of an id's first entry
abbrev pub torn_found : Option Entry → Option Bool
torn_found None = None
torn_found (Some e) = Some (is_torn e)

unfoldable pub torn_asked : (ids states torn : List ℕ) → ℕ → Result (Option Bool) ℕ
torn_asked is ss ts x = answered (refused is ss ts) (torn_found (lookup x (ledger_of is ss ts)))

-- document 01's number of an answer, 0 where nothing is refused, and the values that come with it
abbrev pub state_numbers : Result (Option Durability) ℕ → Answer
state_numbers (Err n) = record { number = n; values = [] }
state_numbers (Ok None) = record { number = 0; values = [] }
state_numbers (Ok (Some s)) = record { number = 0; values = code_of s ∷ [] }

abbrev pub torn_numbers : Result (Option Bool) ℕ → Answer
torn_numbers (Err n) = record { number = n; values = [] }
torn_numbers (Ok None) = record { number = 0; values = [] }
torn_numbers (Ok (Some b)) = record { number = 0; values = flag b ∷ [] }
