-- The definitions, a file for each subject.
pub mod Keys
pub mod Entries
pub mod Usual
pub mod Reply
pub mod Reading
pub mod Walks
pub mod Exact
pub mod Writing
pub mod Faults
pub mod Causes
