pub mod LineLaws
pub mod PerCentLaws
pub mod TellLaws
pub mod PlaceLaws
pub mod Examples
