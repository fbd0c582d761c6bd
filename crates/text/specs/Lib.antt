-- Document 01, "Scripts and the two programs": a text's lines, fields, numbers and bytes. Definitions only; assumes nothing.
pub mod Lines
pub mod Fields
pub mod Numbers
pub mod Pairs
pub mod Printing
