pub mod Steps
pub mod Pieces
pub mod Sound
pub mod Complete
pub mod Accepted
pub mod Inside
pub mod Points
pub mod Ordered
