pub mod WordLaws
pub mod InstructionLaws
pub mod EncodeBits
