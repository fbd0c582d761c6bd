-- What the exported functions leave in the places that they are lent. Definitions only; assumes nothing.
pub mod Session
