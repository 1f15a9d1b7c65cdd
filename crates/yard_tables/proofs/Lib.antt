-- What the proofs of several functions and crates use.
pub mod Sweeps
pub mod Digits
pub mod Sizing
pub mod Counts
pub mod Scarce
pub mod Rows
pub mod Telling
pub mod Keeping
pub mod Single
pub mod Flags
pub mod Blocks
pub mod Lowering
pub mod Marking
pub mod Ranks
pub mod Turning
