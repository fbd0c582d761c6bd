-- Document 01, "session.rs (974)": the ledger of a run, by the rule for records (`records` Records). A reader reads `Ledger`; `Scans` has
-- what only private contracts cite. Definitions only; assumes nothing.
pub mod Ledger
pub mod Scans
