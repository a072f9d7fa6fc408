pub mod Judged
pub mod List
pub mod models
