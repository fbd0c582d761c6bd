-- Document 01, "session.rs (974)": the session's program. Definitions only; assumes nothing.
pub mod Program
