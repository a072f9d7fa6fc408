pub mod Buffers
pub mod Words
pub mod NumberLaws
