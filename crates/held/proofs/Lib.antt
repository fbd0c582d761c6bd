-- A finished run held to the fault-free one: laws, and examples computed.
pub mod Alike
pub mod Compared
pub mod Marks
pub mod Numbers
pub mod Whole
pub mod Exact
pub mod Examples
