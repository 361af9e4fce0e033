pub mod Numbers
pub mod Layout
pub mod Check
pub mod Decode
pub mod Places
pub mod Order
pub mod Accepts
