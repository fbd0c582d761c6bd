pub mod Thin
pub mod While
pub mod Again
pub mod Local
