-- Document 01's worked example of a sweep, computed; that one look at the script decides 26; and what a relabelled run shows.
pub mod Examples
pub mod Below
pub mod OneLine
pub mod InStep
pub mod Reached
pub mod CrashPoints
pub mod Decided
pub mod Relabelled
