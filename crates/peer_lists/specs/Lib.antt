pub mod Candidates
pub mod Refusal
