-- Laws that belong to no one function, each under what it is about.
pub mod Letters
pub mod Numbers
