-- The numbers that cross. Definitions only; assumes nothing.
pub mod Codes
