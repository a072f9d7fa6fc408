pub mod Record
pub mod Output
pub mod Pack
pub mod Unpack
