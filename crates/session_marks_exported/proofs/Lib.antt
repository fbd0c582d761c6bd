-- The law that the exported functions' proofs cite.
pub mod Told
