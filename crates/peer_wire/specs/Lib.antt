-- The definitions, a file for each subject.
pub mod Message
pub mod Frames
pub mod Handshake
pub mod Causes
