-- What is armed in each run of a sweep. Definitions only; assumes nothing.
pub mod Places
