-- Document 01, "Scripts and the two programs": the suggested history. Definitions only; assumes nothing.
pub mod History
