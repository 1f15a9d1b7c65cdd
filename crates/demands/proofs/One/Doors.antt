-- The doors: what a user calls from Rattle, and from C (`Yard`, `Host..`). The files go by crate, and a call stands under its path.

pub mod Bencode
pub mod Walk
pub mod Metainfo
pub mod Contents
pub mod Authoring
pub mod Lines
pub mod Tracker
pub mod TrackerWriting
pub mod Sheets
pub mod Links
pub mod Week
pub mod Blocks
pub mod Wire
pub mod WireWriting
pub mod Sha1
pub mod Yard
pub mod HostTexts
pub mod HostParts
pub mod HostWriters
