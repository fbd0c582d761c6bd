-- A run of a sweep. Definitions only; assumes nothing.
pub mod Running
