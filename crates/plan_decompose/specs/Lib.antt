pub mod Entry
pub mod Fair
pub mod OpenSets
pub mod Reduced
pub mod Solution
pub mod Walk
