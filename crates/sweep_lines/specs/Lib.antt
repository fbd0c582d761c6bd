-- A run's line of `sweep` in a lent buffer. A reader reads `Answers`; `Fields` has what only private contracts cite.
-- Definitions only; assumes nothing.
pub mod Answers
pub mod Fields
