-- What the proofs of several functions and crates use.
pub mod Sound
pub mod Complete
pub mod Turns
pub mod Leaves
pub mod Exact
