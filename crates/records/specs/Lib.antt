-- Document 01, "session.rs (974)": records and the state of each. `Records` has the rule over any list of operations, `Columns` what
-- it says of operations in columns, `Events` which operations are a record's by the order of events. Definitions only; assumes nothing.
pub mod Records
pub mod Columns
pub mod Events
