-- The definitions.
pub mod Pages
