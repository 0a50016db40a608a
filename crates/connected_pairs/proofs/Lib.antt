pub mod Closing
pub mod Indices
pub mod Listing
pub mod Marking
pub mod OneTable
pub mod Prefixes
pub mod RowEnds
