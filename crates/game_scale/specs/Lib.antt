pub mod Amounts
pub mod LeastMultiple
pub mod Paths
pub mod Refusal
pub mod Scaled
pub mod Scales
pub mod Tree
pub mod Ways
