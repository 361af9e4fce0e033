pub mod Still
pub mod StillFacts
