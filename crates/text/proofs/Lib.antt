-- Laws that belong to no one function, each under what it is about.
pub mod Fields
pub mod Numbers
pub mod Decimals
pub mod Plain
pub mod ReadBack
