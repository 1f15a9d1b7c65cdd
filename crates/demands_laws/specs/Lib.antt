-- The words that statements of `demands` and laws share, a file for each subject.
pub mod Texts
pub mod Causes
pub mod Places
pub mod Paging
