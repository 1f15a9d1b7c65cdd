-- The definitions, a file for each subject.
pub mod Form
pub mod Causes
