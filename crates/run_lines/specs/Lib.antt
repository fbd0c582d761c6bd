-- The line of the run at a place. Definitions only; assumes nothing.
pub mod RunLine
