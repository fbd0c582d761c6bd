-- Document 01, "Demand 3". A reader reads `Plain`, `Ledger`, `Events` and `Claims`. Definitions only; assumes nothing.
pub mod Plain
pub mod Ledger
pub mod Events
pub mod Claims
