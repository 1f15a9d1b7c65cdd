-- What the proofs of several functions use, and the laws of replies.
pub mod Steps
pub mod Agreeing
pub mod Matching
pub mod Walking
pub mod Determined
pub mod Checking
pub mod Exact
pub mod Written
pub mod Numbering
pub mod Causes
pub mod Rewriting
