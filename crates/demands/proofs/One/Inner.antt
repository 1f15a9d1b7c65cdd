-- Functions that are public because another crate calls them; a user needs none of them. The files go by crate.

pub mod Refusal
pub mod Scalar
pub mod Writer
pub mod Bencode
pub mod Fields
pub mod Digest
pub mod Blocks
pub mod Metainfo
pub mod Tracker
pub mod Tables
pub mod Seating
pub mod Hearing
pub mod Scans
pub mod Telling
