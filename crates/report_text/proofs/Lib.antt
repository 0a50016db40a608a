pub mod Fractions
pub mod Items
pub mod Telling
