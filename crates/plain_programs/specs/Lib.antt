pub mod Fronts
pub mod Moderate
pub mod PaidWith
pub mod ReducedAt
pub mod Samples
pub mod Weights
pub mod SmallPolygon
