-- Document 01, "Demand 3": a list of calls through the session. Definitions only; assumes nothing.
pub mod Threaded
pub mod Claim
pub mod Demand3
