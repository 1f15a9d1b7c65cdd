-- The definitions, a file for each subject.
pub mod Sheet
pub mod Rules
pub mod Causes
pub mod Reading
pub mod Turns
