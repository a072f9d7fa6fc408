pub mod Changes
pub mod models
