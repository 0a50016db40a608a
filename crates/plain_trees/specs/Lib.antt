pub mod Chances
pub mod Least
pub mod Meeting
pub mod Relevant
pub mod Remembering
pub mod Siblings
