-- Laws alone: the line of a run, from its parts, and as document 01 has it.
pub mod Parts
pub mod Whole
