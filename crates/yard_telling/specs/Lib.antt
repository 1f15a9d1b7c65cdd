-- The definitions, a file for each subject.
pub mod Telling
