-- Demand 2 of the verdict, about what `verify_oracle` answers of any columns. The proof is `acceptance` in proofs/Acceptance.antt.
-- Definitions only; assumes nothing.
use Rattle.std.specs.Prelude.{◌↔◌, ◌≡◌, List, ℕ}
use Rattle.model.specs.Columns.{ledger_of, refused}
use Rattle.id_columns.specs.Ids.{Distinct}
use Rattle.basics.specs.Replies.{number_in}
use Rattle.oracle.specs.Verdict.{Banks, number_of, verified}
use Rattle.oracle_legal.specs.Legal.{Legal}

pub record Acceptance (ids states torn history dispatched : List ℕ) (b : Banks) : Type 0 where
  -- the verdict is 0 exactly if the columns hold a ledger and the recovery is a legal one of it
  pub zero-exactly : (number_in number_of (verified ids states torn history dispatched b) ≡ 0)
      ↔ ((refused ids states torn ≡ 0) × Legal (ledger_of ids states torn) history dispatched b)
  -- a ledger that names one id twice is 31, whatever else is wrong
  pub twice-first : refused ids states torn ≡ 0 → (Distinct ids → ⊥) → number_in number_of (verified ids states torn history dispatched b) ≡ 31
