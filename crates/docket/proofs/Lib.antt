pub mod Pricing
pub mod Mixing
pub mod Settling
pub mod Pairs
