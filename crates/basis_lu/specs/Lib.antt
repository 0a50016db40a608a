pub mod Exchange
pub mod PackedColumns
pub mod Pivots
