pub mod Load
pub mod Promise
