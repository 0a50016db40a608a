pub mod ByToken
pub mod FileEnds
pub mod FileLeft
pub mod OneFile
pub mod ReadsBack
pub mod StepBack
pub mod SyntaxPlace
