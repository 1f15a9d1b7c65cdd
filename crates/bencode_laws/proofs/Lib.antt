-- What the laws of the refusals rest on, and the laws.
pub mod Fails
pub mod Scalars
pub mod Only
pub mod Every
pub mod Whole
pub mod Laws
