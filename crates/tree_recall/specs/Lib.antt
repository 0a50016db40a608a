pub mod Forgetting
pub mod LastMove
pub mod OwnSequence
pub mod Tree
