-- The definitions, a file for each subject.
pub mod Said
pub mod Looks
pub mod Replies
pub mod Torrents
pub mod Addresses
pub mod Magnets
pub mod Mapping
pub mod Frames
pub mod Files
pub mod Weeks
pub mod Writers
pub mod Peers
pub mod Hashing
