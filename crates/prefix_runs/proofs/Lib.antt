pub mod RunLaws
pub mod EndLaws
pub mod PieceLaws
