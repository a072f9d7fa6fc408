pub mod Tiling
pub mod Record
pub mod models
