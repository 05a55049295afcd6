pub mod Trace
pub mod World
