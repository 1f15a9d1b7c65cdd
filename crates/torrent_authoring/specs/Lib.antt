-- The definitions, a file for each subject.
pub mod Writing
pub mod Rules
pub mod Reading
