pub mod WindowLaws
pub mod OperandLaws
pub mod GrownCode
