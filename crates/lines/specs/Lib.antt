-- Document 01, "Scripts and the two programs": what `sweep` and `judge` print, and its lines in a lent buffer.
-- Definitions only; assumes nothing.
pub mod Lines
pub mod Answers
pub mod Written
