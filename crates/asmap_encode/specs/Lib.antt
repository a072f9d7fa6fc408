pub mod Write
pub mod models
