-- What stands before the entries in a run's line of `sweep`. Definitions only; assumes nothing.
pub mod Heads
