pub mod Words
pub mod Ranges
pub mod Schedules
pub mod Jobs
pub mod Requests
