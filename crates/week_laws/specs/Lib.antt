-- The definitions, a file for each subject.
pub mod Week
pub mod Causes
pub mod Lines
