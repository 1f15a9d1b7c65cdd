-- Laws of what C is told.
pub mod Said
pub mod Determined
pub mod Keeping
