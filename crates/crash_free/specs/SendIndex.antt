pub mod Sends
pub mod Tables
