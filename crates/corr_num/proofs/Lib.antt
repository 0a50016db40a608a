pub mod CommonDivisors
pub mod ExactQuotients
pub mod LowestTerms
pub mod MagnitudeBounds
pub mod PartialSums
pub mod PrintedTerms
