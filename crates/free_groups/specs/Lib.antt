pub mod Free
pub mod models
