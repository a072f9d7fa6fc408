pub mod Compare
pub mod Promise
