-- Laws of rows in turn.
pub mod Turns
pub mod Lines
pub mod Listed
