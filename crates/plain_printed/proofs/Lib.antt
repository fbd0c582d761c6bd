-- Laws alone: what is printed of a script's run is the plain run of the lines that its writer reaches.
pub mod Reached
pub mod Stopped
pub mod Suggested
pub mod Points
pub mod Whole
