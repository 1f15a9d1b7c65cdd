-- What the laws rest on, and the laws.
pub mod Names
pub mod Values
pub mod Paths
pub mod Filing
pub mod Sizes
pub mod Contents
pub mod Informing
pub mod Numbers
pub mod Laws
pub mod Within
pub mod Example
pub mod Determined
