-- What following `next` yields.
pub mod Following
pub mod Example
