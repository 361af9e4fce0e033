pub mod Views
pub mod Pricing
pub mod Settling
pub mod Stages
