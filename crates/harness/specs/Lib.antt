-- A sweep opened. Definitions only; assumes nothing.
pub mod Opening
pub mod Inner
