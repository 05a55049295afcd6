mod Finishing
pub mod Masking
mod NoDomino
mod NoOrphan
mod Replaying
mod Halting
mod Missing
mod Planning
mod Played
mod WithScript
