-- Laws alone: the parts of a text, counted, the bytes that a reader gave, and those that a writer took.
pub mod Counts
pub mod Taken
pub mod Sent
