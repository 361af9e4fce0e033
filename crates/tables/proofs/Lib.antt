pub mod Places
pub mod Asked
pub mod Follows
pub mod Kept
pub mod Mirror
pub mod Goal
pub mod CounterBox
pub mod Lowest
