-- The definitions that the verdict's contracts cite. A reader reads `Verdict`; `Scans` has what only private contracts
-- cite. What a verdict 0 means is in `oracle_legal`. Assumes nothing.
pub mod Verdict
pub mod Scans
pub mod Nonzero
