pub mod FrontLaws
pub mod EmittedLaws
