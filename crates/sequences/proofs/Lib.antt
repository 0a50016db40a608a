pub mod Adding
pub mod Few
pub mod Holding
pub mod NodeSeqs
pub mod Numbering
pub mod Owned
