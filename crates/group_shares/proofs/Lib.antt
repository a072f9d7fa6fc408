pub mod SpreadLaws
pub mod RunLaws
pub mod SortLaws
pub mod PartLaws
pub mod ShareLaws
