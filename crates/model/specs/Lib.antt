-- The ledger's definitions. A reader reads `Ledger`, `Columns` and `Answers`; `Scans` has what only private contracts cite, and
-- `Lent` says which columns are lent. Assumes nothing.
pub mod Ledger
pub mod Columns
pub mod Answers
pub mod Scans
pub mod Lent
