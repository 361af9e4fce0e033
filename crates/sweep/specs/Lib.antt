pub mod Limits
pub mod Gains
pub mod Steps
pub mod Made
pub mod Swept
