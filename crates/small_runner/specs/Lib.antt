pub mod Gate
pub mod Occupant
