-- Document 01, "session.rs (974)": how much of an armed operation lands, and how it ends. Definitions only; assumes nothing.
pub mod Landed
pub mod Ending
