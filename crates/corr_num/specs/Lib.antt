pub mod Fraction
pub mod Narrow
pub mod Quotient
