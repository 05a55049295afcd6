pub mod PieceLaws
pub mod NumberLaws
