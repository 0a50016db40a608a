mod Angles
mod Arriving
mod Axes
mod BasicValues
mod Certifying
mod Divisors
mod Edges
mod Furthest
mod Greater
mod Growing
mod Leading
mod Mixtures
mod Parting
mod Ranks
mod RoundAxes
pub mod RoundBelt
pub mod RoundCorners
mod RoundLists
mod RoundTurns
mod Returning
mod Rounds
mod Shown
