pub mod Acts
pub mod Parts
pub mod Standing
