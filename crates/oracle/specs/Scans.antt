-- What the private scans of `src/` ask and answer. No public contract cites these. Assumes nothing.
use Rattle.std.specs.Prelude.{Option, filter, List, ℕ, min}
use Rattle.std.specs.List.{reduce}
use Rattle.std.specs.Result.{is_err}
use Rattle.model.specs.Ledger.{Entry}
use Rattle.model.specs.Columns.{ledger_of}
use Rattle.model.specs.declared.LedgerRef.{LedgerRef}
use Rattle.oracle.specs.Verdict.{Verdict}

-- the ledger that lent columns hold
abbrev pub held_by : LedgerRef → List Entry
held_by l = ledger_of l.ids.now l.states.now l.torn.now

-- the least id of a list at which a test does not accept
unfoldable pub least_faulty : (ℕ → Verdict) → List ℕ → Option ℕ
least_faulty test xs = reduce min (filter (λ x. is_err (test x)) xs)
