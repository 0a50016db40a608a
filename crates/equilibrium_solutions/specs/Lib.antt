pub mod ColumnSums
pub mod Decision
pub mod Departure
pub mod Values
