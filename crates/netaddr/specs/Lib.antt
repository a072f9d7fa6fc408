pub mod Answer
pub mod Filter
pub mod Relay
