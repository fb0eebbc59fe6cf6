pub mod Months
pub mod Bins
pub mod Stretches
pub mod Parts
pub mod Matching
