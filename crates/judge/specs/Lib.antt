pub mod Answer
pub mod Renaming
pub mod Judging
pub mod Comparison
