pub mod CountLaws
pub mod LineLaws
pub mod NoteLaws
pub mod SeenLaws
