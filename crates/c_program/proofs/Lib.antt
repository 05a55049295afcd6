pub mod Indenting
pub mod Naming
pub mod Whole
