pub mod GainExact
pub mod GainFollowed
pub mod GainNumbers
pub mod GainPast
pub mod GainRow
pub mod GainTriggers
pub mod GainValues
pub mod GreatestSets
pub mod GreatestSteps
pub mod LeftLists
pub mod LeftPairs
pub mod LeftStart
pub mod LeftSteps
mod PlannedPlans
pub mod Sizes
