-- Laws of the tests of a table's rows.
pub mod Outside
pub mod Lengths
pub mod Scanned
pub mod Numbers
