-- Document 01, "storage.rs (308), geometry", and that no error's number is 0. Assumes nothing.
pub mod Geometry
pub mod Span
pub mod Answers
pub mod Nonzero
