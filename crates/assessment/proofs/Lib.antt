pub mod Bytes
pub mod Lines
pub mod Room
pub mod Pairing
pub mod Order
