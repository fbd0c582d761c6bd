-- Laws that belong to no one function, each under what it is about.
pub mod Texts
pub mod Ids
pub mod Puts
pub mod Ways
