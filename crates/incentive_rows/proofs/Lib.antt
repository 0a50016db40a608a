pub mod Coefficients
pub mod Counts
pub mod Following
pub mod Growing
pub mod Placing
pub mod Parts
pub mod Sums
pub mod Terms
