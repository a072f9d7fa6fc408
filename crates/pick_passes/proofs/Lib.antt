pub mod Lists
pub mod Placing
pub mod Outputs
pub mod Passes
pub mod Examined
pub mod Beginnings
pub mod Fills
