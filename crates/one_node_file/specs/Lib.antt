pub mod Amount
pub mod FirstForm
pub mod Reading
