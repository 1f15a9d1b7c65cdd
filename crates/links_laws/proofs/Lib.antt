-- Laws of links by what a link is, and by why a text is none.
pub mod Saying
pub mod Reached
pub mod Exact
pub mod Opening
pub mod Parting
pub mod Stopping
pub mod Faults
pub mod Back
pub mod Laws
pub mod Example
