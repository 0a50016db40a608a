pub mod Connected
pub mod CorrelationRows
pub mod Table
