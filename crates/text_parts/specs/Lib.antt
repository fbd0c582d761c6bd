-- What the two programs print, a part at a time. A reader reads `Parts`; `Inner` has what only private contracts cite. Definitions only;
-- assumes nothing.
pub mod Parts
pub mod Inner
