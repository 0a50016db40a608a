pub mod Chances
pub mod Number
pub mod Value
pub mod Words
