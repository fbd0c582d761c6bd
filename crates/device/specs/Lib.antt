-- Document 01, "device.rs (342)": the media. Definitions only; assumes nothing.
pub mod Media
pub mod Answers
pub mod Codes
