-- What the proofs of several functions and crates use.
pub mod Fitting
pub mod Standing
pub mod Seeking
pub mod Determined
pub mod Nth
pub mod Checks
pub mod Typed
