-- Document 01, "Demand 3", of what the functions answer. A reader reads `Replies`. Definitions only; assumes nothing.
pub mod Replies
