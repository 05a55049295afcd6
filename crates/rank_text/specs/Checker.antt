pub mod Lines
pub mod Arguments
pub mod Scope
pub mod Verdict
pub mod Faults
pub mod SeenLines
pub mod Waiting
pub mod Progress
