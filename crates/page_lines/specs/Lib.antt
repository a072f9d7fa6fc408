pub mod PerCent
pub mod Line
pub mod Told
