-- The definitions, a file for each subject.
pub mod Value
pub mod Decode
pub mod Answers
pub mod Exact
