-- The definitions, a file for each subject.
pub mod File
pub mod Rules
pub mod Writing
pub mod Lines
pub mod Noted
