pub mod ColumnSums
pub mod ProductSizes
pub mod RestOfRow
