-- The definitions, a file for each subject.
pub mod Written
pub mod Reading
pub mod Answers
pub mod Steps
