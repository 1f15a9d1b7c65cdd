-- The definitions, a file for each subject.
pub mod Looks
pub mod Values
pub mod Causes
pub mod Nth
