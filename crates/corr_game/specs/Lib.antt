pub mod Game
pub mod Node
pub mod Plan
pub mod Preorder
pub mod Sets
pub mod Walk
