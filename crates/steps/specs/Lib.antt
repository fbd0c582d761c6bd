-- One row through a session, a script's writer, and its lines as calls of the plain run. Definitions only; assumes nothing.
pub mod Writer
pub mod Step
pub mod Calls
