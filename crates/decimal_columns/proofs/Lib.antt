pub mod ColumnLaws
pub mod Putting
