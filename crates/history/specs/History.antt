-- Document 01, "Scripts and the two programs": the suggested history, and as it is written into a lent column.
-- Definitions only; assumes nothing.
use Rattle.std.specs.Prelude.{Bool, not, ◌&&◌, List, ℕ}
use Rattle.model.specs.Answers.{Written, written}
use Rattle.model.specs.Columns.{ledger_of, refused}
use Rattle.model.specs.Ledger.{Entry, is_committed, is_torn, ids, picked}

-- an entry of the suggested history
abbrev pub is_kept : Entry → Bool
is_kept e = is_committed e && not (is_torn e)

-- "the suggested history: the ids of committed entries that are not torn, in ledger order"
unfoldable pub suggested : List Entry → List ℕ
suggested l = ids (picked is_kept l)

-- the suggested history of the ledger that three columns hold, in a lent column
unfoldable pub suggested_written : (ids states torn column : List ℕ) → Written
suggested_written is ss ts column = written (refused is ss ts) (suggested (ledger_of is ss ts)) column
