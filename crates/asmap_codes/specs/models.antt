pub mod Grown
pub mod Reverse
