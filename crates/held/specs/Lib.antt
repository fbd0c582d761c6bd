-- Document 01: a finished run held to the fault-free one. A reader reads `Held`; `Scans` has what only private contracts cite.
-- Definitions only; assumes nothing.
pub mod Held
pub mod Scans
