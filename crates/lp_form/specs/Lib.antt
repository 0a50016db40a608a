pub mod Certificates
pub mod Program
pub mod Row
pub mod Small
pub mod Solutions
