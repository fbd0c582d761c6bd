-- Laws alone: what `sweep` and `judge` print.
pub mod Codes
pub mod Steady
pub mod Ledgers
pub mod Sheets
pub mod RunLines
pub mod Openings
pub mod Whole
pub mod Short
pub mod Counts
