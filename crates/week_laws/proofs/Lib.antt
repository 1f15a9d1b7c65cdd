-- Laws of a week's file, by what it is and why a file is none.
pub mod Example
pub mod Among
pub mod Writing
pub mod Back
pub mod Fields
pub mod Tables
pub mod Bodies
pub mod Walks
pub mod Exact
pub mod Laws
pub mod Numbers
pub mod Returning
pub mod Listing
