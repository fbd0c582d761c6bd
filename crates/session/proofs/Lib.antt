-- Laws of the session's definitions, each under what it is about.
pub mod Answers
pub mod Refusals
pub mod Laws
pub mod Writing
