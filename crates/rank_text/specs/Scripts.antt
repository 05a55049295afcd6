pub mod Faults
pub mod Form
pub mod Orders
pub mod Script
pub mod Seen
