-- What is asked of a list of ids. Assumes nothing.
pub mod Ids
