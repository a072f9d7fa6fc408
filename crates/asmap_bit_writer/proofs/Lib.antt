pub mod ByteLaws
pub mod InstructionBits
pub mod WrittenLaws
pub mod WriterLaws
pub mod ToCome
