pub mod Words
pub mod Bench
