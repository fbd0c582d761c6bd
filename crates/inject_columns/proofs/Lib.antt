-- Laws of points written to columns, each under what it is about.
pub mod Rows
pub mod Walks
pub mod Listings
pub mod Numbers
