-- The definitions, a file for each subject.
pub mod Files
pub mod Paths
pub mod Pieces
pub mod Steps
pub mod Walks
