-- Laws that belong to no one function: the rows of a ledger as a loop reads them, a list written over a column, and what is
-- answered.
pub mod Rows
pub mod Fills
pub mod Asked
