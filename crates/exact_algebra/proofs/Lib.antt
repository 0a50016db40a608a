pub mod Combinations
pub mod Dot
pub mod Duality
pub mod DualityOfLists
pub mod Families
pub mod FiniteChoice
pub mod FiniteTests
pub mod Fractions
pub mod Greatest
pub mod Identities
pub mod ListSums
pub mod Matrices
pub mod NoReturn
pub mod Order
pub mod Polynomial
pub mod RingLaws
pub mod RingTactic
pub mod RisingKeys
pub mod RunStates
pub mod StepsLeft
pub mod SumOrder
pub mod Sums
mod ChoiceSamples
mod HalvingSample
mod RingSamples
mod SolverSamples
mod SumSamples
