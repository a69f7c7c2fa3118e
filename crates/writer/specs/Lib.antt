pub mod Parts
pub mod Writer
