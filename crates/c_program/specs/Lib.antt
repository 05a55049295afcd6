pub mod Names
pub mod Translation
pub mod Whole
