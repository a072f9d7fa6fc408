pub mod Stop
pub mod Check
pub mod Examples
pub mod models
