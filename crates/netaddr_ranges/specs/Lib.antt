pub mod Prefix
pub mod Ranges
pub mod Unroutable
