pub mod Spread
pub mod models
