pub mod Cursor
pub mod Pieces
pub mod Place
pub mod Reading
pub mod Stopping
pub mod Syntax
