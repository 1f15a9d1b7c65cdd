-- What the proofs of several functions use, and the laws of written torrents.
pub mod Putting
pub mod Ruling
pub mod Steps
pub mod Written
pub mod Rewriting
