pub mod Bits
pub mod Sorted
pub mod Runs
