pub mod GameText
pub mod Random
pub mod Refused
