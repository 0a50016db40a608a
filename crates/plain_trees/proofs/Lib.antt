pub mod Leasts
pub mod Parting
pub mod Sequences
pub mod Ways
