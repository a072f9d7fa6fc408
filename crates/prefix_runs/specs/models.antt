pub mod Runs
pub mod Pieces
