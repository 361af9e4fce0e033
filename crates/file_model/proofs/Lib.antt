pub mod Walk
pub mod Asked
pub mod Whole
