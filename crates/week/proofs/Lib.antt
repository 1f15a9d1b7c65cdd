-- Laws of a week's file.
pub mod Tabling
pub mod Summing
pub mod Answers
pub mod Lining
pub mod Packing
