-- Document 01, "session.rs (974)": the session's erase. Definitions only; assumes nothing.
pub mod Erase
