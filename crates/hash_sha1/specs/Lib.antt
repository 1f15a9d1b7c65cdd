-- The definitions, a file for each subject.
pub mod Sha1
pub mod Rounds
pub mod Digest
pub mod Parts
pub mod Example
