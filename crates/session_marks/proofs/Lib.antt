-- Laws that the marks' proofs cite.
pub mod Rows
