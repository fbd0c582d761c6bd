-- Laws that the exported functions' proofs cite.
pub mod ReplyNumbers
