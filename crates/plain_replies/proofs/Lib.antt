-- The page Replies, proved.
pub mod Whole
