pub mod List
pub mod Promise
pub mod Examples
pub mod models
