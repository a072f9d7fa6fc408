pub mod ShapeLaws
pub mod TreeLaws
pub mod MapLaws
