-- Laws of a sweep opened.
pub mod Behind
pub mod Parts
