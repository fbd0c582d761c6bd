-- Laws of storage's definitions, each under what it is about.
pub mod Powers
pub mod Numbers
pub mod Checks
pub mod Spans
pub mod Nesting
