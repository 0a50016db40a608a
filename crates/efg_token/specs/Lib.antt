pub mod Bytes
pub mod Cursor
pub mod Front
pub mod Lexeme
pub mod Seen
pub mod Tokens
