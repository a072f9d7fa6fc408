pub mod Groups
pub mod Scanned
pub mod Scan
