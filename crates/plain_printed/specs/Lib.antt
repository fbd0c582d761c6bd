-- Document 01, "Demand 3", of the lines that `sweep` and `judge` print. A reader reads `Reached` and `Printed`. Definitions only; assumes
-- nothing.
pub mod Reached
pub mod Printed
