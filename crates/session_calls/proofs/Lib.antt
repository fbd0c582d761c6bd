-- Laws that the calls' proofs cite.
pub mod Calls
pub mod Fetches
