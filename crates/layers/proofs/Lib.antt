pub mod Extended
pub mod Fitted
pub mod Halves
pub mod Negated
