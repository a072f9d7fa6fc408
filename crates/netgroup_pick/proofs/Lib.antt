pub mod PickRefusals
pub mod Picks
pub mod Examples
