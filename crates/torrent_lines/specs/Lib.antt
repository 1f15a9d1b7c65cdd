-- The definitions, a file for each subject.
pub mod Lines
pub mod Places
