-- What the functions of `src/` print and write. Definitions only; assumes nothing.
pub mod Output
