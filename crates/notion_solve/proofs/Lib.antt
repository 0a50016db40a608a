mod Beginning
mod Cutting
pub mod ExactPolygons
pub mod Inside
mod Joined
mod MadePoints
mod Marking
mod MeansPaid
mod Outcomes
mod Points
mod PointsApart
mod RightBlocks
mod RightCorners
pub mod RightEmpty
mod RightPolygons
pub mod Rightness
pub mod Views
mod Weighing
mod WideBasis
