-- The definitions, a file for each subject.
pub mod History
pub mod Says
pub mod View
pub mod Expected
pub mod Causes
pub mod Run
pub mod Damage
pub mod Given
