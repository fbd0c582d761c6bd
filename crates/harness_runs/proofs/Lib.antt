-- Laws of a run of a sweep.
pub mod Parts
