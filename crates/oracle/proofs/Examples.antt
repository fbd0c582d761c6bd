-- Document 01's example of the verdict (`twice`), and one of each answer, computed by the definition. Assumes nothing.
use mathlib.Core.Path.{◌≡◌, refl}
use mathlib.Core.List.{List, [], ◌∷◌}
use Prim.Native.Nat.{ℕ}
use Rattle.basics.specs.Tests.{unless, first_of}
use Rattle.model.specs.Ledger.{ids, picked, committed, acknowledged, lookup}
use Rattle.model.specs.Columns.{ledger_of, all_up_to, refused}
use Rattle.id_columns.specs.Ids.{has}
use Rattle.std.specs.Prelude.{None as nothing, Some as number, None as Absent, Some as Count}
use Rattle.basics.specs.Replies.{number_in}
use Rattle.oracle.specs.Verdict.{number_of, Value, Banks, values_in, first_breach, seen_before, insert, rising, fault_of, first_fault, differs, unrecovered, first_lost, verdict, verified}

-- the columns' ids, states and torn, the history, what was dispatched, and the banks: this number with these values
pub record Says (is ss ts h d : List ℕ) (b : Banks) (n : ℕ) (vs : List Value) : Type 0 where
  pub numbered : number_in number_of (verified is ss ts h d b) ≡ n
  pub valued : values_in (verified is ss ts h d b) ≡ vs

pub record Table : Type 0 where
  -- "Ledger ids 5, 5 with bank count 0: 31."
  pub twice : Says (5 ∷ 5 ∷ []) (1 ∷ 1 ∷ []) (0 ∷ 0 ∷ []) [] [] (Count 0) 31 (number 5 ∷ [])
  -- 33 and 34 go by rising value, and not by history order
  pub rises : Says (9 ∷ 4 ∷ []) (0 ∷ 1 ∷ []) (1 ∷ 1 ∷ []) (9 ∷ 4 ∷ []) [] Absent 34 (number 4 ∷ [])
  -- torn is dropped where the state is attempted
  pub dropped : Says (9 ∷ []) (0 ∷ []) (1 ∷ []) (9 ∷ []) [] Absent 33 (number 9 ∷ [])
  -- a history longer than the committed list, and one that differs from it
  pub longer : Says (1 ∷ 2 ∷ []) (0 ∷ 1 ∷ []) (0 ∷ 0 ∷ []) (2 ∷ 7 ∷ []) [] Absent 32 (number 1 ∷ nothing ∷ number 7 ∷ [])
  pub other : Says (1 ∷ 2 ∷ []) (1 ∷ 1 ∷ []) (0 ∷ 0 ∷ []) (2 ∷ []) [] Absent 32 (number 0 ∷ number 1 ∷ number 2 ∷ [])
  -- a history that repeats an id, and one with an id that no ledger has
  pub repeats : Says (1 ∷ 2 ∷ []) (1 ∷ 1 ∷ []) (0 ∷ 0 ∷ []) (1 ∷ 1 ∷ []) [] Absent 32 (number 1 ∷ number 2 ∷ number 1 ∷ [])
  pub unknown : Says (1 ∷ []) (1 ∷ []) (0 ∷ []) (7 ∷ []) [] Absent 32 (number 0 ∷ number 1 ∷ number 7 ∷ [])
  pub lost : Says (1 ∷ 2 ∷ []) (1 ∷ 2 ∷ []) (0 ∷ 0 ∷ []) (1 ∷ []) (2 ∷ []) (Count 0) 35 (number 2 ∷ [])
  pub sent : Says (1 ∷ 2 ∷ []) (2 ∷ 1 ∷ []) (0 ∷ 0 ∷ []) (1 ∷ []) (1 ∷ 2 ∷ []) (Count 0) 36 (number 2 ∷ [])
  pub no-bank : Says (1 ∷ []) (2 ∷ []) (0 ∷ []) (1 ∷ []) [] (Count 0) 37 []
  pub two-banks : Says (1 ∷ []) (2 ∷ []) (0 ∷ []) (1 ∷ []) [] (Count 2) 38 (number 2 ∷ [])
  pub accepted : Says (1 ∷ 2 ∷ []) (2 ∷ 1 ∷ []) (0 ∷ 1 ∷ []) (1 ∷ []) (1 ∷ []) (Count 1) 0 []
  pub unequal : Says (1 ∷ []) [] (0 ∷ []) [] [] Absent 12 []
  pub no-state : Says (1 ∷ []) (3 ∷ []) (0 ∷ []) [] [] Absent 12 []

pub table : Table
unfolding unless first_of ids picked committed acknowledged lookup ledger_of all_up_to refused has first_breach seen_before insert rising fault_of first_fault differs unrecovered first_lost verdict verified
table = record {
  twice = record { numbered = refl; valued = refl };
  rises = record { numbered = refl; valued = refl };
  dropped = record { numbered = refl; valued = refl };
  longer = record { numbered = refl; valued = refl };
  other = record { numbered = refl; valued = refl };
  repeats = record { numbered = refl; valued = refl };
  unknown = record { numbered = refl; valued = refl };
  lost = record { numbered = refl; valued = refl };
  sent = record { numbered = refl; valued = refl };
  no-bank = record { numbered = refl; valued = refl };
  two-banks = record { numbered = refl; valued = refl };
  accepted = record { numbered = refl; valued = refl };
  unequal = record { numbered = refl; valued = refl };
  no-state = record { numbered = refl; valued = refl };
}
