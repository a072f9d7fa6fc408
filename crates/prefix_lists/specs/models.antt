pub mod End
pub mod Listed
