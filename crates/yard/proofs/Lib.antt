-- What the proofs of several functions and crates use.
pub mod Faults
pub mod Heard
pub mod Numbered
pub mod Calls
pub mod Looking
