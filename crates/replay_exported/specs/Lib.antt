-- What the exported function leaves in the places that it is lent. Definitions only; assumes nothing.
pub mod Left
