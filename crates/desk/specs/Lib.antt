pub mod First
pub mod Desk
pub mod Service
pub mod Identification
pub mod Stepping
