-- The definitions, a file for each subject.
pub mod Rules
pub mod Numberings
pub mod Spans
pub mod Steps
pub mod Answers
pub mod Covers
