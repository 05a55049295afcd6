pub mod AllLanes
pub mod Console
pub mod Crossed
pub mod Kept
pub mod Lanes
