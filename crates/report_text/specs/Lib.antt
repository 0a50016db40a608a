pub mod Joined
pub mod NameText
pub mod PartText
pub mod ReportText
pub mod RefusalText
