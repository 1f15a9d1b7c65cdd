-- What the proofs of several functions use.
pub mod Naming
pub mod Telling
pub mod Filing
pub mod Sizing
pub mod Closing
pub mod Informing
pub mod Exact
pub mod Determined
pub mod Hashing
