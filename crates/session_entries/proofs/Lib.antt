pub mod Fill
pub mod Correspond
pub mod Refused
pub mod Returned
pub mod Recorded
pub mod Turns
