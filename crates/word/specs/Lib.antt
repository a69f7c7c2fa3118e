pub mod Answer
pub mod Search
pub mod Searching
pub mod Service
