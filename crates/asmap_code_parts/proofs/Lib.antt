pub mod PartsLaws
pub mod EncodeLaws
pub mod LookedUp
