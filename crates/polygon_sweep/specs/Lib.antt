pub mod Round
pub mod Swept
pub mod Turning
pub mod Turns
