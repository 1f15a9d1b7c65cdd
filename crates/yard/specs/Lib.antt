-- The definitions, a file for each subject.
pub mod Pages
pub mod Rounds
