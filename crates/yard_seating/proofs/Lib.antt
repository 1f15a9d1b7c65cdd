-- What the proofs of several functions and crates use.
pub mod Passes
pub mod Ways
pub mod Looking
pub mod Determined
