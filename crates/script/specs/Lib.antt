-- Document 01, "Scripts and the two programs": what a script means, and the columns that it is read into.
-- Definitions only; assumes nothing.
pub mod Calls
pub mod First
pub mod Script
pub mod Columns
pub mod Lent
pub mod Held
pub mod Print
pub mod Inner
