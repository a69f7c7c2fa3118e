pub mod Limits
pub mod Machine
pub mod Causes
pub mod Loading
pub mod House
pub mod Unit
