-- Laws of the list of crash points, each under what it is about.
pub mod Spans
pub mod Groups
pub mod Searches
pub mod Rests
pub mod Whole
pub mod Refusals
pub mod Formula
pub mod Examples
pub mod Members
pub mod Distinct
pub mod Numbers
