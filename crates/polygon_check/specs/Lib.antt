pub mod CornerParts
pub mod SideParts
pub mod SmallRow
