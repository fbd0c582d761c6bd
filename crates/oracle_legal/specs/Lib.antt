-- What a verdict 0 means. A reader reads `Legal` and `Acceptance`. Definitions only; assumes nothing.
pub mod Legal
pub mod Acceptance
