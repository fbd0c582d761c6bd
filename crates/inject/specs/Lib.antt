-- Document 01, "inject.rs (373)". Definitions only; assumes nothing.
pub mod Ops
pub mod Points
pub mod Answers
pub mod Claims
pub mod Steps
pub mod Codes
