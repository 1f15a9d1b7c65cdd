-- What the proofs of several functions use.
pub mod Passing
pub mod Gaining
pub mod Announcing
pub mod Hearing
pub mod Determined
