-- The definitions, a file for each subject.
pub mod Put
pub mod Escaped
