pub mod Shelf
pub mod Image
pub mod Spelling
pub mod Reading
pub mod Legal
pub mod Savable
pub mod Seen
