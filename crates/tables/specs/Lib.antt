pub mod Whole
pub mod CounterBox
pub mod Layer
pub mod Goal
pub mod Mirror
pub mod Claims
