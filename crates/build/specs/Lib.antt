pub mod Transfer
pub mod Sequence
pub mod Building
pub mod Distances
pub mod Table
pub mod Writing
