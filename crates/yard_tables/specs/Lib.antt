-- The definitions, a file for each subject.
pub mod Counting
pub mod Rows
pub mod Seats
pub mod Tables
pub mod Replies
pub mod Frames
pub mod Rounds
pub mod Ranks
pub mod Seating
pub mod Looks
pub mod Step
