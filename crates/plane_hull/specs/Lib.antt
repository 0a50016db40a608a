pub mod Angle
pub mod Belt
pub mod BeltFault
pub mod Inside
pub mod Mixture
pub mod Round
pub mod StrictPolygon
