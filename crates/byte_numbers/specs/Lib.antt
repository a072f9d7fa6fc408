pub mod Numbers
pub mod models
