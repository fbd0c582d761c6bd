-- Laws that belong to no one function, each under what it is about.
pub mod Runs
pub mod Bytes
