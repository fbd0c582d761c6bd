-- A table of rows through a session. Definitions only; assumes nothing.
pub mod Run
