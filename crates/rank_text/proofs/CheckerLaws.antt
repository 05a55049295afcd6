pub mod LineLaws
pub mod TextLaws
pub mod WholeLaws
pub mod ScopeLaws
pub mod ReadLaws
pub mod NameLaws
pub mod WaitingLaws
