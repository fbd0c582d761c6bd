-- Laws that belong to no one function: `Blocks` for the loops that seek an id, `Members` for ids in a list.
pub mod Blocks
pub mod Members
