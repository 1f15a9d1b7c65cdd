-- Laws of sheets.
pub mod Lines
pub mod Passing
pub mod Finding
pub mod Checking
pub mod Addresses
pub mod Laws
pub mod Answers
pub mod Example
