pub mod Gains
pub mod Leaving
pub mod Planned
pub mod Reach
pub mod Triggers
