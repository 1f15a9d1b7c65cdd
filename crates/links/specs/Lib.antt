-- The definitions, a file for each subject.
pub mod Link
pub mod Reading
pub mod Writing
pub mod Line
pub mod Places
