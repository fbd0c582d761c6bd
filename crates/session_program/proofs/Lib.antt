-- Laws of the program's definition.
pub mod Refusals
pub mod Landings
pub mod Calls
pub mod Laws
