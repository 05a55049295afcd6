pub mod Faults
pub mod Events
pub mod Output
pub mod Written
