-- What the proofs of several functions and crates use.
pub mod Rounds
pub mod Same
pub mod Parts
pub mod Steps
pub mod Determined
