-- The session's values as numbers. Definitions only; assumes nothing.
pub mod Numbers
