pub mod Products
pub mod Held
pub mod Rows
pub mod Enough
pub mod Pairs
