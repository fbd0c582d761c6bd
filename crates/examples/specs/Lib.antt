-- Document 01, "Fixed examples, P to be proved". Definitions only; assumes nothing.
pub mod Fixed
