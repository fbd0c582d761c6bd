-- Document 01, "inject.rs (373)": all points, written. Definitions only; assumes nothing.
pub mod Answers
pub mod Steps
