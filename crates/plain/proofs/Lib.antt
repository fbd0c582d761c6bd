-- The theorems about the plain run, lowest first, behind the examples.
pub mod Examples
pub mod Flags
pub mod Runs
pub mod Events
pub mod Truncation
pub mod Tidy
pub mod Only
pub mod Histories
pub mod Entries
pub mod Accepted
pub mod Capped
pub mod Keep
pub mod Later
pub mod Theorems
pub mod Sanity
