pub mod Faults
pub mod Numbers
pub mod Forms
pub mod Texts
pub mod Outcomes
