-- Text written in pieces. Definitions only; assumes nothing.
pub mod Pieces
pub mod Cursors
