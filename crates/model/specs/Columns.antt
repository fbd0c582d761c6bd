-- The ledger that three lent columns hold, and the columns that hold none. Assumes nothing.
use Rattle.std.specs.Prelude.{Bool, true, not, cond, ◌&&◌, ◌||◌, List, [], ◌∷◌, ℕ, length, eqb, leb}
use Rattle.basics.specs.Tests.{unless, first_of}
use Rattle.model.specs.Ledger.{Entry}
use Rattle.model.specs.declared.Durability.{Durability}
use Rattle.model.specs.declared.Durability.TheVariants.{Attempted, PossiblyDurable, Acknowledged}

-- the state that a code of the column stands for; a code above 2 stands for none and is refused below, before it is read
abbrev pub state_of : ℕ → Durability
state_of code = cond (eqb code 0) Attempted (cond (eqb code 1) PossiblyDurable Acknowledged)

-- an entry as a row of the columns holds it
abbrev pub entry_of : (id state torn : ℕ) → Entry
entry_of i s t = record { id = i; state = state_of s; mark = eqb t 1 }

-- the ledger that three columns hold, row by row
unfoldable pub ledger_of : (ids states torn : List ℕ) → List Entry
ledger_of [] ss ts = []
ledger_of (i ∷ is) [] ts = []
ledger_of (i ∷ is) (s ∷ ss) [] = []
ledger_of (i ∷ is) (s ∷ ss) (t ∷ ts) = entry_of i s t ∷ ledger_of is ss ts

-- no code of a column is above the last with a meaning
unfoldable pub all_up_to : ℕ → List ℕ → Bool
all_up_to top [] = true
all_up_to top (code ∷ codes) = leb code top && all_up_to top codes

-- "columns of one list unequal", over their lengths
abbrev pub uneven : (ids states torn : ℕ) → Bool
uneven is ss ts = not (eqb ss is) || not (eqb ts is)

-- "12: columns of one list unequal (ledger ..), or .. a state above 2 or a torn .. code without a meaning"; 0 for columns
-- that hold a ledger
unfoldable pub refused : (ids states torn : List ℕ) → ℕ
refused is ss ts =
    first_of
    (unless (eqb (length ss) (length is)) 12
    ∷ unless (eqb (length ts) (length is)) 12
    ∷ unless (all_up_to 2 ss) 12
    ∷ unless (all_up_to 1 ts) 12
    ∷ [])
