-- Document 01, "session.rs (974)" and "Numbers from the state". Definitions only; assumes nothing.
pub mod Log
pub mod Lent
pub mod Replies
pub mod Tests
pub mod Armed
pub mod Written
pub mod Start
pub mod Barrier
pub mod Read
pub mod Marks
