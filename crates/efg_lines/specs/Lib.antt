pub mod Draft
pub mod File
pub mod FileTokens
pub mod Grammar
pub mod Machine
pub mod Refusal
