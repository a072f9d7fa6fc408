pub mod Columns
pub mod models
