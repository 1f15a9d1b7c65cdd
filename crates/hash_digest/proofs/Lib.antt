-- What the proofs of several functions and crates use.
pub mod Bits
pub mod Stores
pub mod Blocks
pub mod Window
pub mod Determined
