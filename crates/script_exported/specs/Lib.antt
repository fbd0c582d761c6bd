-- What the exported functions leave in the reply that they are lent. Definitions only; assumes nothing.
pub mod Reply
