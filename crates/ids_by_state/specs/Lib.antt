-- What the functions that write ids into a column answer; the ledger's definitions are in `model`. Assumes nothing.
pub mod Answers
