-- What a verdict 0 means, proved: `Accepting` has each test, `Acceptance` all of them.
pub mod Accepting
pub mod Acceptance
