pub mod Change
pub mod Record
