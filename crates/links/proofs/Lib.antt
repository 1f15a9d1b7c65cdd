-- Laws of links.
pub mod Digits
pub mod Running
pub mod Lengths
pub mod Turning
pub mod Spelling
pub mod Pairing
pub mod Decoding
pub mod Putting
pub mod Answers
pub mod Lining
