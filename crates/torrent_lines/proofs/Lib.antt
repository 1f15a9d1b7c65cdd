-- What the proofs of several functions use, and the laws of the listing.
pub mod Running
pub mod Taken
pub mod Walking
pub mod Fitting
pub mod Reading
pub mod Laws
