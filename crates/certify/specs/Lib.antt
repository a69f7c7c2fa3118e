pub mod Answer
pub mod Recognition
pub mod Marks
pub mod Certification
pub mod Word
pub mod Folding
pub mod Propagation
pub mod Sweep
