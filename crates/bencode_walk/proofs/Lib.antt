-- What the proofs of several functions and crates use.
pub mod Limited
pub mod Seeing
pub mod Rest
pub mod Standing
pub mod Telling
pub mod Seeking
pub mod Finding
pub mod Determined
pub mod Having
