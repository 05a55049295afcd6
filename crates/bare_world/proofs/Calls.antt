-- What each call comes to, as an event.
pub mod SettlesAtTheEnd
pub mod SeatStays
pub mod Console
pub mod OldestUnstored
pub mod RankOfEvent
pub mod Steps
pub mod Frames
pub mod Stores
pub mod Releases
pub mod Images
pub mod Lives
