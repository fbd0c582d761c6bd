-- Document 01, "Scripts and the two programs": the runs of a sweep, and what `sweep` and `judge` print. Definitions only; assumes nothing.
pub mod Sweep
pub mod Decided
