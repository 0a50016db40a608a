pub mod FractionOf
pub mod Remainder
