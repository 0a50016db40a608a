pub mod SummaryText
pub mod VerdictText
