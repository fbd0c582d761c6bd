-- Document 01, "device.rs (342)": the device's own calls, and that no fault's number is 0. Assumes nothing.
pub mod Answers
pub mod Calls
pub mod Nonzero
