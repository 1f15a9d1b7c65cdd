-- What the proofs of several functions and crates use.
pub mod Steps
pub mod Passes
pub mod Determined
pub mod Calls
