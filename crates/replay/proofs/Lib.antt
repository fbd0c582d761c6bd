-- Laws of a list of calls run.
pub mod Begins
pub mod Whole
