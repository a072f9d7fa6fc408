pub mod PaddingLaws
pub mod PreviousLaws
