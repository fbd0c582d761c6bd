-- Laws that every layer cites, each under what it is about.
pub mod Tests
pub mod Replies
pub mod Scans
pub mod Overwrites
pub mod Columns
pub mod Parts
pub mod Spans
pub mod Lists
