pub mod DrawLaws
pub mod Examples
