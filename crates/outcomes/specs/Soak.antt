pub mod Histogram
pub mod Lines
pub mod Seen
pub mod Text
