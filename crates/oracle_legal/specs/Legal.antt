-- What a verdict 0 means, said without the verdict (demand 2): the ledger's ids are distinct, the history is a beginning of
-- the committed ids without a torn one, it holds every acknowledged and every dispatched id, and the bank count is absent or
-- one. Assumes nothing.
use Rattle.std.specs.Prelude.{◌≡◌, ℕ, None as Absent, Some as Count}
use mathlib.Core.List.{List, ◌++◌, Memᴰ}
use Rattle.model.specs.Ledger.{Entry, ids, committed, acknowledged, torn}
use Rattle.id_columns.specs.Ids.{Distinct}
use Rattle.oracle.specs.Verdict.{Banks}

-- a history that goes on to become the whole
pub record Beginning (history whole : List ℕ) : Type 0 where
  pub rest : List ℕ
  pub joined : history ++ rest ≡ whole

-- a history holds every one of these ids
abbrev pub Holds : (history wanted : List ℕ) → Type 0
Holds h wanted = (x : ℕ) → Memᴰ x wanted → Memᴰ x h

-- a history holds none of these ids
abbrev pub Without : (history unwanted : List ℕ) → Type 0
Without h unwanted = (x : ℕ) → Memᴰ x h → Memᴰ x unwanted → ⊥

abbrev pub AbsentOrOne : Banks → Type 0
AbsentOrOne Absent = Unit {0}
AbsentOrOne (Count n) = n ≡ 1

pub record Legal (l : List Entry) (history dispatched : List ℕ) (b : Banks) : Type 0 where
  pub distinct : Distinct (ids l)
  pub beginning : Beginning history (committed l)
  pub untorn : Without history (torn l)
  pub kept : Holds history (acknowledged l)
  pub accounted : Holds history dispatched
  pub banks : AbsentOrOne b
