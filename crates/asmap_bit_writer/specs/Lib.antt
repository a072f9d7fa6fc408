pub mod Bytes
pub mod models
