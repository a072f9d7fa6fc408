pub mod Group
pub mod Refusal
pub mod Ended
pub mod Netgroup
pub mod models
