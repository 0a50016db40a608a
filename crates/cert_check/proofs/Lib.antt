mod CertifiedSides
mod CheckedBlocks
mod CheckedCorners
mod CheckedSides
mod Faultless
mod FirstBroken
mod OneFault
mod OneVerdict
mod PairSums
mod RuleEnds
mod Accepted
mod Shares
mod Whole
pub mod Elements
