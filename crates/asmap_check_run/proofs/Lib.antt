pub mod StateLaws
pub mod ActLaws
pub mod Standing
pub mod Turn
