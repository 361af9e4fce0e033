pub mod Followed
pub mod Lengths
