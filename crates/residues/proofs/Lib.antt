pub mod Differences
pub mod Factors
pub mod Folding
pub mod Inverses
pub mod Products
