-- Laws alone: lines that fill a buffer, each function's ways out, and the parts of a text.
pub mod Fills
pub mod Fitted
pub mod Steps
pub mod Whole
