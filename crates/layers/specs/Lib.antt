pub mod Numbers
pub mod Fits
