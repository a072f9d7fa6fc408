pub mod Bits
pub mod Row
pub mod Reading
pub mod Code
pub mod Encode
pub mod Instruction
pub mod Core
pub mod models
