-- Laws that belong to no one function. Of loops: `Codes` for one that reads a column of codes, `Rows` for one over the ledger's
-- columns. Of the ledger: `Lookups` for an id's first entry, `Sanity` for what holds of every list of entries.
pub mod Codes
pub mod Rows
pub mod Lookups
pub mod Sanity
