-- Laws of places, of one record, and of the order of events.
pub mod Places
pub mod Scanning
pub mod Clips
pub mod Judged
pub mod Events
