-- The run and its index, runs of misses, and the counts of events.
pub mod ActFitsWant
pub mod EventNamesOneAct
pub mod ClocksRise
pub mod Index
pub mod MoreMisses
pub mod KeptByEvents
pub mod KeptByStores
pub mod CountsKept
pub mod CountsKeptBySteps
