pub mod Totals
pub mod Blends
pub mod Plans
pub mod Sweep
pub mod Claims
