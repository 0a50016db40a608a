pub mod Basis
pub mod BlandRule
pub mod Content
pub mod Determinant
pub mod Pivot
pub mod Simplex
pub mod Tableau
