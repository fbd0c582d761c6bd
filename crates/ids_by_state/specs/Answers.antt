-- The ids of the entries that a test picks, written into a lent column: the committed and the acknowledged ones. Assumes nothing.
use Rattle.std.specs.Prelude.{Bool, List, ℕ}
use Rattle.model.specs.Ledger.{Entry, ids, picked, committed, acknowledged}
use Rattle.model.specs.Columns.{ledger_of, refused}
use Rattle.model.specs.Answers.{Written, written}

-- the ids of the entries that a test picks, in ledger order
abbrev pub picked_ids : (Entry → Bool) → List Entry → List ℕ
picked_ids test l = ids (picked test l)

unfoldable pub picked_written : (Entry → Bool) → (ids states torn column : List ℕ) → Written
picked_written test is ss ts column = written (refused is ss ts) (picked_ids test (ledger_of is ss ts)) column

unfoldable pub committed_written : (ids states torn column : List ℕ) → Written
committed_written is ss ts column = written (refused is ss ts) (committed (ledger_of is ss ts)) column

unfoldable pub acknowledged_written : (ids states torn column : List ℕ) → Written
acknowledged_written is ss ts column = written (refused is ss ts) (acknowledged (ledger_of is ss ts)) column
