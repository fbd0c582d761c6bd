-- Laws that belong to no one function, each under what it is about.
pub mod Cells
pub mod Told
pub mod Letters
pub mod Heads
pub mod Placed
pub mod Passes
pub mod Enough
pub mod Fills
pub mod Rooms
pub mod Kept
pub mod RoundTrip
pub mod Examples
