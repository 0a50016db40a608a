pub mod Bounding
pub mod Certified
pub mod JoinedRights
pub mod Joining
pub mod Placing
pub mod Solving
