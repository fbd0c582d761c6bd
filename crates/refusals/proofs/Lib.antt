-- What is proved of the refusals' numbers. Assumes nothing.
pub mod Numbers
