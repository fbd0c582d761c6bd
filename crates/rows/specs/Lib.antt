-- The tests of a table's rows. Definitions only; assumes nothing.
pub mod Rows
pub mod Ready
