-- What is answered of an id's first entry; the ledger's definitions are in `model`. Assumes nothing.
pub mod Answers
