pub mod Lines
pub mod Grammar
pub mod Checker
pub mod Printer
pub mod Scripts
