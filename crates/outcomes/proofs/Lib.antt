pub mod TextLaws
pub mod JudgeLaws
pub mod SoakLaws
