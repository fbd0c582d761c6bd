-- Lent columns that may be written: which ones they are. Assumes nothing.
use Rattle.std.specs.Prelude.{◌≡◌}
use Rattle.model.specs.declared.LedgerMut.{LedgerMut}

-- a function that takes a ledger's columns leaves the same ones
abbrev pub SameLedger : LedgerMut → LedgerMut → Type 0
SameLedger a b = (b.ids.ghost_name ≡ a.ids.ghost_name) × (b.states.ghost_name ≡ a.states.ghost_name) × (b.torn.ghost_name ≡ a.torn.ghost_name)
