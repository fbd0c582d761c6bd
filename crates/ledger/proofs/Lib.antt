-- Laws of the log's rows, of the marks' entries and of the whole call.
pub mod Rows
pub mod Entries
pub mod Withheld
pub mod Numbers
pub mod Storing
pub mod Whole
pub mod Readback
pub mod Sanity
