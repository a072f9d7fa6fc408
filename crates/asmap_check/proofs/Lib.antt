pub mod Limit
pub mod Core
pub mod Examples
pub mod Reasons
