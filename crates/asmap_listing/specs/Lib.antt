pub mod Listing
pub mod models
