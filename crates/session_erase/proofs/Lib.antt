-- Laws of the erase's definition.
pub mod Calls
pub mod Laws
