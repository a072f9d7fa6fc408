pub mod Pass
pub mod Size
