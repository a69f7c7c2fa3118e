pub mod Check
pub mod Values
pub mod Format
pub mod Reader
pub mod Writing
pub mod Promise
pub mod Joining
