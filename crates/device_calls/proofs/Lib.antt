-- Laws of device_calls' definitions, each under what it is about.
pub mod Examples
pub mod Numbers
pub mod Accepted
pub mod Replies
