pub mod FromLast
pub mod Rows
pub mod SetCount
pub mod Tested
pub mod WalkSteps
