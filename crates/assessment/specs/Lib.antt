pub mod Questions
pub mod Faults
pub mod Listings
pub mod Assess
pub mod Steps
