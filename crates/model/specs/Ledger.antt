-- The ledger of document 01, "model.rs", over any list of entries: its states, its tests, its lookups, and the ids that are
-- committed, acknowledged and torn. Assumes nothing.
use Rattle.std.specs.Prelude.{Bool, false, cond, not, ◌&&◌, List, [], ◌∷◌, ℕ, eqb, Option, None, Some}
use Rattle.model.specs.declared.Durability.{Durability}
use Rattle.model.specs.declared.Durability.TheVariants.{Attempted, PossiblyDurable, Acknowledged}

-- "a state (0 attempted, 1 possibly durable, 2 acknowledged)": the number of each
abbrev pub code_of : Durability → ℕ
code_of Attempted = 0
code_of PossiblyDurable = 1
code_of Acknowledged = 2

-- "A ledger entry is a u32 id, a state .. and torn." The mark is torn as it was entered: `is_torn` reads it.
pub record Entry : Type 0 where
  pub id : ℕ
  pub state : Durability
  pub mark : Bool

abbrev pub is_attempted : Entry → Bool
is_attempted e = eqb (code_of e.state) 0

abbrev pub is_acknowledged : Entry → Bool
is_acknowledged e = eqb (code_of e.state) 2

-- "Committed means not attempted"
abbrev pub is_committed : Entry → Bool
is_committed e = not (is_attempted e)

-- "Torn is dropped where the state is attempted."
abbrev pub is_torn : Entry → Bool
is_torn e = is_committed e && e.mark

-- the ids, in ledger order
unfoldable pub ids : List Entry → List ℕ
ids [] = []
ids (e ∷ es) = e.id ∷ ids es

-- the entries that pass a test, in ledger order
unfoldable pub picked : (Entry → Bool) → List Entry → List Entry
picked test [] = []
picked test (e ∷ es) = cond (test e) (e ∷ picked test es) (picked test es)

-- "Committed means not attempted, in ledger order."
unfoldable pub committed : List Entry → List ℕ
committed l = ids (picked is_committed l)

-- the ids of the acknowledged entries, in ledger order
unfoldable pub acknowledged : List Entry → List ℕ
acknowledged l = ids (picked is_acknowledged l)

-- the ids of the torn entries, in ledger order
unfoldable pub torn : List Entry → List ℕ
torn l = ids (picked is_torn l)

-- "Lookups take an id's first entry."
unfoldable pub lookup : ℕ → List Entry → Option Entry
lookup x [] = None
lookup x (e ∷ es) = cond (eqb e.id x) (Some e) (lookup x es)

-- what a test says of the entry that a lookup found: no entry passes none
abbrev pub passes : (Entry → Bool) → Option Entry → Bool
passes test None = false
passes test (Some e) = test e
