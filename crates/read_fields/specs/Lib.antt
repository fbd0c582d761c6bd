-- What the functions that read a field answer; the definitions of a text are in `text`. Definitions only; assumes nothing.
pub mod Answers
pub mod Inner
