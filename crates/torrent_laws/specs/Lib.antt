-- The definitions, a file for each subject.
pub mod Torrent
pub mod Exact
pub mod Causes
pub mod Example
