-- Laws of device's definitions, each under what it is about.
pub mod Ands
pub mod Pairs
pub mod Lent
pub mod Cells
pub mod Applied
pub mod Programming
pub mod Erasing
pub mod Bits
pub mod Questions
pub mod Postimages
pub mod Examples
