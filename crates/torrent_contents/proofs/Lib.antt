-- What the proofs of several functions use.
pub mod Facts
pub mod Numbering
pub mod Walking
pub mod Hashing
pub mod Determined
