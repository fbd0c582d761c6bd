-- What the functions over hexadecimal pairs answer; the definitions of a text are in `text`. Definitions only; assumes nothing.
pub mod Answers
pub mod Inner
