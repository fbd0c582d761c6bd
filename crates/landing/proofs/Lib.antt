-- Laws of landing's definitions, each under what it is about.
pub mod Table
pub mod Bounds
pub mod Multiples
