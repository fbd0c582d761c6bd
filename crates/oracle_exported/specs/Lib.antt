-- How verdicts and answers cross as numbers. Definitions only; assumes nothing.
pub mod Cells
