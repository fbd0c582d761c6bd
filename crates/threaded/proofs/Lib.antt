-- Theorem 1 of demand 3, and what it rests on.
pub mod Cells
pub mod Steps
pub mod Held
pub mod Alike
pub mod Calls
pub mod Seen
pub mod Same
pub mod Demand
