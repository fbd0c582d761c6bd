-- What the functions that `sweep` and `judge` call give together. A reader reads `Claim`. Definitions only; assumes nothing.
pub mod Steady
pub mod Lent
pub mod Printout
pub mod Claim
