pub mod First
pub mod Ranked
pub mod Fill
pub mod Output
pub mod models
