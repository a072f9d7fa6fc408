pub mod Page
pub mod Promise
