-- A world without runs of misses does what the world does.
pub mod ActsOfEvents
pub mod EffectsAndLeft
pub mod Ranks
pub mod ReplayedIsStep
pub mod Worlds
pub mod ReplaySteps
pub mod SameEvents
