pub mod Clocks
pub mod Columns
pub mod Deliveries
pub mod Due
pub mod Lines
pub mod Places
pub mod Seen
pub mod Words
