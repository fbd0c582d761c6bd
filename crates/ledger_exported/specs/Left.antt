-- The layer `ledger` with its answer as numbers. Definitions only; assumes nothing.
use Rattle.std.specs.Prelude.{ℕ}
use Rattle.std.specs.Prelude.{Ok as Entries, Err as NotDerived}
use Rattle.ledger.specs.Ledger.{Entered, Derived, Ledgered}

-- the number, how many entries the ledger has, and its columns
pub record LedgerLeft : Type 0 where
  pub answer : ℕ
  pub entries : ℕ
  pub columns : Entered

abbrev pub ledger_left : (answer entries : ℕ) → Entered → LedgerLeft
ledger_left a n e = record { answer = a; entries = n; columns = e }

-- a ledger that is not refused has the number of its entries put over what stood there
abbrev pub left_by : (old : ℕ) → Entered → Derived → LedgerLeft
left_by old e (Entries n) = ledger_left 0 n e
left_by old e (NotDerived number) = ledger_left number old e

abbrev pub ledgered_over : (old : ℕ) → Ledgered → LedgerLeft
ledgered_over old x = left_by old x.columns x.reply
