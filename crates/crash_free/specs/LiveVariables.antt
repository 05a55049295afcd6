pub mod Names
pub mod Unread
pub mod Agrees
pub mod Given
pub mod Seen
pub mod Live
