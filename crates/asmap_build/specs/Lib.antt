pub mod Build
pub mod Promise
pub mod models
