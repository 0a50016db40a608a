mod CornerParts
mod Elements
mod RowSums
