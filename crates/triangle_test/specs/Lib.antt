pub mod Parting
pub mod PublicChance
pub mod TreeTriangle
pub mod Triangle
