-- The definitions, a file for each subject.
pub mod Words
pub mod Window
pub mod Message
