pub mod Limits
pub mod Views
pub mod Refusals
pub mod Pairs
