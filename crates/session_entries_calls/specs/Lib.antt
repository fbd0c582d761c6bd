-- Document 01, "Expected forms by place": a session's calls and a log of entries. Definitions only; assumes nothing.
pub mod CarriesOver
