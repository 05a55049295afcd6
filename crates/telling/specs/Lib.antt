pub mod Free
pub mod Lines
pub mod Telling
