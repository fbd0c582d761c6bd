-- Laws of what is armed in each run.
pub mod Places
