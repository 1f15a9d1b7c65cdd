-- The definitions, a file for each subject.
pub mod Passes
pub mod Steps
