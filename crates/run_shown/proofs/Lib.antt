pub mod TraceLaws
pub mod WorldLaws
