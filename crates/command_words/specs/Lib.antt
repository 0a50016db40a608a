pub mod Options
pub mod Selection
pub mod Table
pub mod Words
