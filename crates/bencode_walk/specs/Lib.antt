-- The definitions, a file for each subject.
pub mod Walk
pub mod Stands
pub mod Lookup
pub mod Has
