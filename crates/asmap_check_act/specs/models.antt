pub mod Acts
pub mod Act
