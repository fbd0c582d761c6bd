-- What every layer's definitions share. Assumes nothing.
pub mod Tests
pub mod Parts
pub mod Replies
