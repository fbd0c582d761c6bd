-- The fixed examples, proved.
pub mod Fixed
