pub mod ByTree
pub mod Least
pub mod OneKid
pub mod Partings
pub mod PublicClass
pub mod Ruled
