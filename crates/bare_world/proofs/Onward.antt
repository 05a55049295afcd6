-- A rank behind the run can get on, and what was sent is on its wire.
pub mod OneRankChanges
pub mod KeptByFrames
pub mod KeptByPasses
pub mod KeptBySteps
pub mod KeptByImages
pub mod KeptByEvents
pub mod KeepsNoMore
pub mod OnItsWire
