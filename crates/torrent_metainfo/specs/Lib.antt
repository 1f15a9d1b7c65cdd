-- The definitions, a file for each subject.
pub mod Keys
pub mod Rules
pub mod Reading
pub mod Exact
pub mod Hashes
pub mod Noted
