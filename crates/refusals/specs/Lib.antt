-- Document 01's numbers of the refusals, and that none is 0. Assumes nothing.
pub mod Numbers
pub mod Nonzero
pub mod Tests
